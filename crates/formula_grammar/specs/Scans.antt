-- What the first look over a text finds: refusals 2 and 3.
use Rattle.std.specs.Prelude.{◌≡◌, List, ℕ, Result, Ok, Err}
use Rattle.ground.specs.Search.{Least}
use Rattle.refusal.specs.declared.Refusal.{Refusal}
use Rattle.formula_grammar.specs.Signs.{Foreign, foreign_byte}

-- no foreign byte, or the refusal of the one at the lowest place
abbrev pub Scans : ℕ → List ℕ → Result (Unit {0}) Refusal → Type 0
Scans n s (Ok _) = (i : ℕ) → Foreign n s i → ⊥
Scans n s (Err r) = (i : ℕ) × Least (Foreign n s) i × (r ≡ foreign_byte s i)
