-- What `read_byte` gives for what a byte comes to in plan/specs/Check.
use Rattle.std.specs.Prelude.{List, [], ◌∷◌, ℕ, Result, Ok, Err}
use Rattle.refusal.specs.declared.Refusal.{Refusal}
use Rattle.plan.specs.Check as C
use Rattle.plancheck.specs.Refusals.{refusal_of}
use Rattle.plancheck.specs.declared.reading.ByteReading.{ByteReading}
use Rattle.plancheck.specs.declared.reading.ByteReading.TheVariants.{Stops, Goes, Parts}

-- what a byte that leaves these states to be read comes to: none leaves more than two
abbrev pub left_by : List ℕ → ByteReading
left_by [] = Stops
left_by (x ∷ []) = Goes x
left_by (x ∷ y ∷ more) = Parts x y

-- what the byte with index at comes to
abbrev pub reading_of : ℕ → C.Reading → Result ByteReading Refusal
reading_of at (C.goes_on new) = Ok (left_by new)
reading_of at (C.fails f) = Err (refusal_of f at)
