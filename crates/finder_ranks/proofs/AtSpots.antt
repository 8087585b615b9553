-- The pushes at a spot: numbers and sides as the code has them, and the digits that it tries.
use mathlib.Core.Path.{◌≡◌, refl, sym, ◌∙◌}
use mathlib.Core.List.{List}
use mathlib.Core.Bool.{Bool, true, false}
use Prim.Native.Nat.{ℕ, ◌+◌, ◌*◌, ◌≤◌, ◌<◌}
use lib.Dec.{ltb}
use Rattle.ground.specs.Digits.{digit}
use Rattle.ground.proofs.Digits.{digit_lt}
use Rattle.knowledge_acts.specs.Seven.{now_told, after_look}
use Rattle.finder_sides.specs.Tables.{entry}
use Rattle.finder_ranks.specs.Ranks.{rank}
use Rattle.finder_ranks.specs.Push.{Pushing}
use Rattle.finder_ranks.specs.Push.{other, after_offer, Spotted, SetsTo, Beside, Tried, PushedLooks}
use Rattle.finder_sides.proofs.Shown.{seven as pos}
use Rattle.finder_ranks.proofs.Spots.{spot_at, spot_side}
use Rattle.finder_ranks.proofs.Before.{from_other, from_none}
use Rattle.finder_ranks.proofs.Pushes.{try_set, try_look, look_high}

module _ {n k i rest side seven three : ℕ} (s : Spotted n k i rest side seven three) {h : ℕ} where
  pub set_at : {set : List (List ℕ)} {old new : List ℕ} {e told : ℕ} {so : Bool} → Pushing n k h old → e < 7 → SetsTo e (digit 7 k i)
      → told ≡ now_told e → so ≡ ltb 0 (entry set i (side + told * three)) → new ≡ after_offer so old (rest + e * seven) h
      → Tried n set h k i e old new
  set_at {e = e} {told = told} {so = so} p l w now test eq =
      try_set s.state s.setting e (side + told * three) so p l w
      (rw now (sym (spot_side s e l)))
      test
      (rw (spot_at s e) eq)

  pub look_at : {look : List (List ℕ)} {old new : List ℕ} {so : Bool} (e : ℕ) → Pushing n k h old → Beside e (digit 7 k i)
      → rank old (rest + e * seven) < h → so ≡ ltb 0 (entry look i side) → new ≡ after_offer so old rest h
      → PushedLooks n look h k i old new
  look_at {so = so} e p w less test eq =
      try_look s.state s.setting e side so p w (rw (spot_at s e) less) s.side_is test (rw (← s.rest_is) eq)

  pub look_high-at : {look : List (List ℕ)} {t : List ℕ} (e : ℕ) → Beside e (digit 7 k i) → h ≤ rank t (rest + e * seven)
      → PushedLooks n look h k i t t
  look_high-at e w high = look_high s.state s.setting e w (rw (spot_at s e) high)

-- the digits that a set leads from, and those beside which a look leads
module _ (k i : ℕ) (d : ℕ) (is : d ≡ digit 7 k i) where
  pub is_digit : d < 7
  is_digit = rw is (digit_lt pos k i)

  pub lead_other : (d ≡ 0 → ⊥) → SetsTo (other d) (digit 7 k i)
  lead_other z = rw (← is) (from_other d is_digit z)

  pub lead_none : (d ≡ 0 → ⊥) → d < 3 → SetsTo 0 (digit 7 k i)
  lead_none z l = rw (← is) (from_none d is_digit z l)

  pub beside_false : d ≡ 3 → Beside 6 (digit 7 k i)
  unfolding after_look
  beside_false e = (false, sym is ∙ e, refl)

  pub beside_true : d ≡ 6 → Beside 3 (digit 7 k i)
  unfolding after_look
  beside_true e = (true, sym is ∙ e, refl)
