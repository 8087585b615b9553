-- What a line of a text may do: it is at fault, or the text goes on with something more stated. "22, 23, the formula's number", in this order.
use Rattle.std.specs.Prelude.{Bool, true, false, not, List, ℕ, Result, Ok, Err}
use Rattle.refusal.specs.declared.Refusal.{Refusal}
use Rattle.refusal.specs.declared.Refusal.TheVariants.{Malformed, Twice}
use Rattle.formula.specs.Computed.{formula_answer}
use Rattle.sheet_words.specs.Words.{twice}

-- a fault, with its refusal; or what is stated then
pub data Step (A : Type 0) : Type 0 where
  fault : Refusal → Step A
  next : A → Step A

-- a fault unless the test holds
abbrev pub unless : {A : Type 0} → Bool → Refusal → Step A → Step A
unless true r later = later
unless false r later = fault r

-- the formula's refusal unless F is a formula of n settings
abbrev pub unless_answered : {A : Type 0} → Result (Unit {0}) Refusal → Step A → Step A
unless_answered (Ok x) later = later
unless_answered (Err r) later = fault r

unfoldable pub unless_refused : {A : Type 0} → ℕ → List ℕ → Step A → Step A
unless_refused n F later = unless_answered (formula_answer n F) later

-- line L, which is to name things: 22 unless it has the form, then 23, "post or setting named twice"
abbrev pub names_step : {A : Type 0} → ℕ → Bool → List ℕ → Step A → Step A
names_step L form names later = unless form (Malformed L) (unless (not (twice (λ i. false) names)) (Twice L) later)
