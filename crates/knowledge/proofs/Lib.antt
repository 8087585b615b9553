-- Laws that callers cite, one file for each definition of specs/ or idea; then what settles the contracts, and examples.
pub mod Number
pub mod States
pub mod Fits
pub mod JudgementLaws
pub mod Known
pub mod Unique
pub mod Examples
