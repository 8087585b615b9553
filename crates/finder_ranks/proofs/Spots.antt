-- A state's number and its present side, as one digit changes: each moves by the digit's place, in base 7 and in base 3.
use mathlib.Core.Path.{◌≡◌, sym, ap, ◌∙◌}
use Prim.Native.Nat.{ℕ, zero, suc, ◌+◌, ◌*◌, ◌^◌, ◌≤◌, ◌<◌}
use native.Mathlib.Omega.{arith}
use lib.Dec.{lit<}
use Rattle.ground.specs.Digits.{digit, put}
use Rattle.ground.proofs.Search.{below_suc}
use Rattle.ground.proofs.Digits.{digit_lt, put_same, put_other, put_lt, put-sum, put-digit}
use Rattle.finder_sides.proofs.Shown.{seven as pos, below-sides}
use Rattle.finder_sides.proofs.CountLaws.{states_most}
use Rattle.knowledge_acts.specs.Seven.{now_told}
use Rattle.knowledge.specs.Number.{sum_of}
use Rattle.knowledge.proofs.Number.{sum_ext}
use Rattle.finder_sides.specs.Sides.{now_side_number}
use Rattle.finder_ranks.specs.Push.{Spotted}

-- a side that differs at one setting
side_change : (n i : ℕ) (f g : ℕ → ℕ) → i < n → ((j : ℕ) → (j ≡ i → ⊥) → f j ≡ g j)
    → sum_of 3 n f + g i * 3 ^ i ≡ sum_of 3 n g + f i * 3 ^ i
unfolding sum_of
side_change zero i f g l other = absurd (omega arith)
side_change (suc n) i f g l other =
    below_suc i n l
    (λ e. rw (sum_ext 3 n f g (λ j m. other j (λ q. absurd (omega arith))), e) (omega arith))
    (λ m. rw (other n (λ q. absurd (omega arith))) (omega (arith, side_change n i f g m other)))

-- the number and the side of a state with another digit at setting i
module _ (n k i : ℕ) where
  pub put_rest : (e : ℕ) → put 7 k i e ≡ put 7 k i 0 + e * 7 ^ i
  put_rest e = omega (arith, put-sum pos k i e, put-sum pos k i 0)

  pub put_from : put 7 k i 0 + digit 7 k i * 7 ^ i ≡ k
  put_from = omega (arith, put-sum pos k i 0)

  put_side : (d e : ℕ) → d < 7 → e < 7 → i < n
      → now_side_number n (put 7 k i d) + now_told e * 3 ^ i ≡ now_side_number n (put 7 k i e) + now_told d * 3 ^ i
  unfolding now_side_number
  put_side d e l m h =
      let here = put_same pos k i d l in
      let there = put_same pos k i e m in
      rw (here, there) at (side_change n i (λ j. now_told (digit 7 (put 7 k i d) j)) (λ j. now_told (digit 7 (put 7 k i e) j)) h
      (λ j ne. ap now_told (put_other pos k i j d l ne ∙ sym (put_other pos k i j e m ne))))

  pub side_rest : (e : ℕ) → e < 7 → i < n → now_side_number n (put 7 k i e) ≡ now_side_number n (put 7 k i 0) + now_told e * 3 ^ i
  unfolding now_told
  side_rest e l h = omega (arith, put_side 0 e (lit< tt) l h)

  pub side_from : i < n → now_side_number n k ≡ now_side_number n (put 7 k i 0) + now_told (digit 7 k i) * 3 ^ i
  side_from h = rw (put-digit pos k i) at (side_rest (digit 7 k i) (digit_lt pos k i) h)

-- how a spot is made: what is taken away
module _ (n k i d : ℕ) (is : d ≡ digit 7 k i) where
  pub rest_of : (seven : ℕ) → seven ≡ 7 ^ i → put 7 k i 0 + d * seven ≡ k
  rest_of seven e = rw (is, e) (put_from n k i)

  pub side_of : (three side told : ℕ) → i < n → side ≡ now_side_number n k → told ≡ now_told d → three ≡ 3 ^ i
      → now_side_number n (put 7 k i 0) + told * three ≡ side
  side_of three side told l s e f = rw (s, e, is, f) (sym (side_from n k i l))

-- at a spot: where the state with the digit e stands, and which side it has
module _ {n k i rest side seven three : ℕ} (s : Spotted n k i rest side seven three) where
  pub spot_at : (e : ℕ) → put 7 k i e ≡ rest + e * seven
  spot_at e = rw (s.rest_is, s.seven_is) (put_rest n k i e)

  pub spot_side : (e : ℕ) → e < 7 → now_side_number n (put 7 k i e) ≡ side + now_told e * three
  spot_side e l = rw (s.side_is, s.three_is) (side_rest n k i e l s.setting)

  pub spot_below : (e : ℕ) → e < 7 → rest + e * seven < 7 ^ n
  spot_below e l = rw (spot_at e) at (put_lt pos k i n e s.state s.setting l)

  pub spot_states : 7 ^ n ≤ 823543
  spot_states = states_most n s.few

  pub spot_sides : (e : ℕ) → e < 7 → side + now_told e * three < 2187
  spot_sides e l = rw (spot_side e l) at (below-sides n (put 7 k i e) s.few)
