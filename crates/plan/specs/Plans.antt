-- "A plan stops, or does a permitted act and goes on with a plan for each outcome; it works if the goal is settled at every stop.
-- Its height is the longest count of acts on a branch." A state is a knowledge number k: in base 7 its digit i tells what is
-- known of setting i, 0 that nothing is (knowledge_acts/specs/Seven).
use Rattle.std.specs.Prelude.{Bool, true, false, ◌&&◌, ℕ, suc, max, ◌<◌, ◌≡◌, T}
use Rattle.ground.specs.Digits.{digit}
use Rattle.knowledge_acts.specs.Acts.{setting_of, post_of, set_to, look_at}
use Rattle.knowledge_acts.specs.declared.act.Act.{Act}
use Rattle.knowledge_acts.specs.declared.act.Act.TheVariants.{Set, Look}
use Rattle.plan.specs.declared.Permit.{Permit}
use Rattle.plan.specs.declared.Permit.TheVariants.{Given, Denied, ChangesNothing}

abbrev pub given : Permit → Bool
given Given = true
given (Denied why) = false
given ChangesNothing = false

-- what a question fixes: the acts of its book and team (any other is 17), those that are permitted at a state (else 18, and why, or 32), and the
-- states at which the goal is settled (else 19)
pub record System : Type 0 where
  pub offers : Act → Bool
  pub permits : ℕ → Act → Permit
  pub goal : ℕ → Bool

-- an act that the team may do at k
abbrev pub may : System → ℕ → Act → Bool
may S k a = S.offers a && given (S.permits k a)

-- a system over n settings and the posts 0 to 7: "look, where .. the digit is 0"
pub record Lawful (n : ℕ) (S : System) : Type 0 where
  pub setting_of_case : (k : ℕ) (a : Act) → T (may S k a) → setting_of a < n
  pub post_of_case : (k : ℕ) (a : Act) → T (may S k a) → post_of a < 8
  pub looks_at : (k i q : ℕ) → T (may S k (Look i q)) → digit 7 k i ≡ 0

-- the states that an act can lead to: a set has one outcome, "A look has two outcomes"
pub data Outcome (k : ℕ) : Act → ℕ → Type 0 where
  after_set_case : (i q : ℕ) (b : Bool) → Outcome k (Set i q b) (set_to k i b)
  after_look : (i q : ℕ) (b : Bool) → Outcome k (Look i q) (look_at k i b)

-- "A plan stops, or does a permitted act and goes on with a plan for each outcome": setting, post, value and what follows; or
-- setting, post, what follows where false is seen, and where true is
pub data Plan : Type 0 where
  stop : Plan
  set_then : ℕ → ℕ → Bool → Plan → Plan
  look_then : ℕ → ℕ → Plan → Plan → Plan

-- each act is permitted at the state where it is done
abbrev pub Permitted : System → ℕ → Plan → Type 0
Permitted S k stop = Unit
Permitted S k (set_then i q b p) = T (may S k (Set i q b)) × Permitted S (set_to k i b) p
Permitted S k (look_then i q p r) = T (may S k (Look i q)) × Permitted S (look_at k i false) p × Permitted S (look_at k i true) r

-- "it works if the goal is settled at every stop"
abbrev pub Works : System → ℕ → Plan → Type 0
Works S k stop = T (S.goal k)
Works S k (set_then i q b p) = T (may S k (Set i q b)) × Works S (set_to k i b) p
Works S k (look_then i q p r) = T (may S k (Look i q)) × Works S (look_at k i false) p × Works S (look_at k i true) r

-- "Its height is the longest count of acts on a branch."
abbrev pub height : Plan → ℕ
height stop = 0
height (set_then i q b p) = suc (height p)
height (look_then i q p r) = suc (max (height p) (height r))
