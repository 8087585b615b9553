-- The laws of what is known, from those of judgements.
use mathlib.Core.Bool.{true}
use mathlib.Core.List.{List}
use Prim.Native.Nat.{ℕ, ◌^◌, ◌<◌}
use lib.Dec.{T}
use Rattle.ground.specs.Table.{truth}
use Rattle.knowledge.specs.Fits.{now_side, fits_now}
use Rattle.knowledge.specs.Judgement.{known}
use Rattle.knowledge.proofs.Fits.{always-at, always_intro}
use Rattle.knowledge.proofs.JudgementLaws.{holds-is}

module _ (n : ℕ) (d : ℕ → ℕ) (t : List ℕ) where
  -- "true at every fitting present valuation"
  pub known_at : T (known n d t) → (v : ℕ) → v < 2 ^ n → T (fits_now n d v) → T (truth t v)
  unfolding known fits_now
  known_at h v l f = always-at true n (now_side d) t (rw (holds-is n (now_side d) t) at h) v l f

  pub known_intro : ((v : ℕ) → v < 2 ^ n → T (fits_now n d v) → T (truth t v)) → T (known n d t)
  unfolding known fits_now
  known_intro h = rw (holds-is n (now_side d) t) (always_intro true n (now_side d) t h)
