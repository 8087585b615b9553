-- What an answer of yes or no tells: that a thing is so, or that it is not.
use Rattle.std.specs.Prelude.{Bool, true, false}

abbrev pub Tells : Bool → Type 0 → Type 0
Tells true A = A
Tells false A = A → ⊥
