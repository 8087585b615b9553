-- "Acts, by a post of the team": which of them the rules of a book permit, by what the team knows and which settings are held, and why not the
-- others. d i is the digit of setting i (knowledge/specs/Fits), and bit i of `held` tells whether it is held.
use Rattle.std.specs.Prelude.{Bool, true, false, List, ℕ, eqb}
use Rattle.ground.specs.Digits.{bit}
use Rattle.refusal.specs.declared.Why.TheVariants.{KnownSetting, SurelyFalse, NotKnown, HeldSetting}
use Rattle.book_block.specs.Rule.{rule}
use Rattle.book_block.specs.declared.rule.Right.TheVariants.{Look as look-rule, Set as set-rule}
use Rattle.knowledge_acts.specs.declared.act.Act.{Act}
use Rattle.knowledge_acts.specs.declared.act.Act.TheVariants.{Set, Look}
use Rattle.knowledge.specs.Fits.{now_side}
use Rattle.knowledge.specs.Judgement.{judgement}
use Rattle.knowledge.specs.declared.judgement.Judgement.{Judgement}
use Rattle.knowledge.specs.declared.judgement.Judgement.TheVariants.{TrueAtAll, FalseAtAll, Neither}
use Rattle.plan.specs.declared.Permit.{Permit}
use Rattle.plan.specs.declared.Permit.TheVariants.{Given, Denied}
use Rattle.plan.specs.Without.{changes_nothing, unless_nothing}

-- by the judgement of the act's rule: "1 surely false, 2 not known"
abbrev pub by_rule : Judgement → Permit
by_rule TrueAtAll = Given
by_rule FalseAtAll = Denied SurelyFalse
by_rule Neither = Denied NotKnown

-- a look: is the digit 0, and then what its rule says; "0 for a look at a known setting .., judged in that order"
abbrev pub by_look : Bool → Permit → Permit
by_look false said = Denied KnownSetting
by_look true said = said

-- a set: is its setting held, and else what its rule says; "A plan that sets a held setting gets 18, second number 3, judged first"
abbrev pub by_set : Bool → Permit → Permit
by_set true said = Denied HeldSetting
by_set false said = said

-- what the held settings and the rules say: "set a setting false or true, where its set rule for that post is known to hold; look, where the look rule
-- is known to hold and the digit is 0". "settings held, which no set act may touch though looks may"
unfoldable pub ruled : ℕ → List ℕ → ℕ → (ℕ → ℕ) → Act → Permit
ruled n book held d (Set i q b) = by_set (bit held i) (by_rule (judgement n (now_side d) (rule book i q set-rule)))
ruled n book held d (Look i q) = by_look (eqb (d i) 0) (by_rule (judgement n (now_side d) (rule book i q look-rule)))

-- what is said of an act: what they say, and of a set that they permit whether it changes nothing; "Where the team knows the present value, setting
-- that same value is no longer an act", "32 .., after 18 at the same byte"
unfoldable pub permitted : ℕ → List ℕ → ℕ → (ℕ → ℕ) → Act → Permit
permitted n book held d a = unless_nothing (changes_nothing d a) (ruled n book held d a)
