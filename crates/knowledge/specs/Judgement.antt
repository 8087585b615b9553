-- "The judgement on a rule should say one of three things: true at all fitting valuations, false at all, or neither. The act test and the learn goals
-- should rest on the same answer." At least one valuation fits any side, so the three exclude one another (proofs/JudgementLaws).
use Rattle.std.specs.Prelude.{Bool, true, false, List, ℕ}
use Rattle.knowledge.specs.Fits.{always, now_side, start_side}
use Rattle.knowledge.specs.declared.judgement.Judgement.{Judgement}
use Rattle.knowledge.specs.declared.judgement.Judgement.TheVariants.{TrueAtAll, FalseAtAll, Neither}

-- by whether the table is true at all, and whether it is false at all
abbrev pub judged : Bool → Bool → Judgement
judged true b = TrueAtAll
judged false true = FalseAtAll
judged false false = Neither

-- the judgement of a table at a side of n settings
unfoldable pub judgement : ℕ → (ℕ → ℕ) → List ℕ → Judgement
judgement n side table = judged (always true n side table) (always false n side table)

abbrev pub holds : Judgement → Bool
holds TrueAtAll = true
holds FalseAtAll = false
holds Neither = false

abbrev pub settles : Judgement → Bool
settles TrueAtAll = true
settles FalseAtAll = true
settles Neither = false

-- "A rule is known to hold if it is true at every fitting present valuation."
unfoldable pub known : ℕ → (ℕ → ℕ) → List ℕ → Bool
known n d rule = holds (judgement n (now_side d) rule)

-- "each learn formula has one same value at all fitting start valuations"
unfoldable pub learn_settled : ℕ → (ℕ → ℕ) → List ℕ → Bool
learn_settled n d learn = settles (judgement n (start_side d) learn)
