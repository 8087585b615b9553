-- The laws of the plan check, in this order: what a byte comes to, a fault's refusal, where a plan ends, where its reading stands, which answer it gets
-- and that it gets one alone, how large a place is; then what is proved of `check`, 18 with its second number, and a marked example.
pub mod ReadingLaws
pub mod ByteLaws
pub mod RefusalLaws
pub mod EndLaws
pub mod StandingLaws
pub mod AnswerLaws
pub mod OneAnswer
pub mod Small
pub mod Theorems
pub mod Denied
pub mod Examples
