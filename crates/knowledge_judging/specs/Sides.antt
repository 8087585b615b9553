-- "A start valuation never stands in for a present one." A judgement is of the values at the start or of those now, by what the digits tell of that
-- side; the valuations that are walked have its type.
use Rattle.std.specs.Prelude.{ℕ}
use Rattle.knowledge.specs.Fits.{start_side, now_side}
use Rattle.knowledge_judging.specs.declared.valuation.Side.{Side}
use Rattle.knowledge_judging.specs.declared.valuation.Side.TheVariants.{Start, Now}
use Rattle.knowledge_judging.specs.declared.valuation.Valuation.{Valuation}
use Rattle.knowledge_judging.specs.declared.valuation.Valuation.TheVariants.{AtStart, Present}

-- the side that a valuation is of
abbrev pub side_of : Valuation → Side
side_of (AtStart v) = Start
side_of (Present v) = Now

-- its bits: bit i is setting i
abbrev pub bits_of : Valuation → ℕ
bits_of (AtStart v) = v.0
bits_of (Present v) = v.0

-- what the digits tell of a side
abbrev pub told_of : Side → (ℕ → ℕ) → ℕ → ℕ
told_of Start d = start_side d
told_of Now d = now_side d
