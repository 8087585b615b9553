-- Pieces of one width laid end to end: how long they are together, and each is read back. By induction on how many there are.
use mathlib.Core.Path.{◌≡◌, refl, sym, ap, ap₂, ◌∙◌}
use mathlib.Core.List.{List, ◌++◌}
use mathlib.Core.Logic.{⊎_elim}
use Prim.Native.Nat.{ℕ, zero, suc, ◌+◌, ◌*◌, ◌≤◌, ◌<◌}
use native.Mathlib.Nat.{mul-zero, mul-suc, mul-le-mul_left, le_of_eq, not-suc-le-zero}
use native.Mathlib.Omega.{arith}
use lib.ListN.{length, take, drop, length-drop, length-append}
use lib.Seq.{take_all, take-add, take-append-le, drop-append-le, drop_at}
use Rattle.book_sound.specs.Sound.{in_order}
use Rattle.ground.proofs.Bools.{lt_or_ge}

module _ (f : ℕ → List ℕ) (w : ℕ) where
  pub length-in_order : (n : ℕ) → ((i : ℕ) → i < n → length (f i) ≡ w) → length (in_order f n) ≡ w * n
  unfolding in_order
  length-in_order zero e = sym (mul-zero w)
  length-in_order (suc n) e =
      length-append (in_order f n) (f n)
      ∙ ap₂ ◌+◌ (length-in_order n (λ i h. e i (omega arith))) (e n (omega arith))
      ∙ sym (mul-suc w n)

  -- part i of them is the i-th
  pub part_in_order : (n : ℕ) → ((i : ℕ) → i < n → length (f i) ≡ w) → (i : ℕ) → i < n → take w (drop (w * i) (in_order f n)) ≡ f i
  unfolding in_order
  part_in_order zero e i h = absurd (not-suc-le-zero h)
  part_in_order (suc n) e i h =
      let a : length (in_order f n) ≡ w * n = length-in_order n (λ j k. e j (omega arith)) in
      ⊎_elim
      (λ (l : i < n).
      let fits : w * i + w ≤ length (in_order f n) = rw (a, ← mul-suc) (mul-le-mul_left w l) in
      let at : w * i ≤ length (in_order f n) = omega arith in
      let left : w ≤ length (drop (w * i) (in_order f n)) = rw length-drop (omega arith) in
      ap (take w) (drop-append-le (w * i) (in_order f n) (f n) at)
      ∙ take-append-le w (drop (w * i) (in_order f n)) (f n) left
      ∙ part_in_order n (λ j k. e j (omega arith)) i l)
      (λ (l : n ≤ i).
      let s : n ≡ i = omega arith in
      ap (take w) (drop_at (in_order f n) (f n) (w * i) (a ∙ ap (λ k. w * k) s))
      ∙ ap (λ k. take w (f k)) s
      ∙ take_all w (f i) (le_of_eq (e i h)))
      (lt_or_ge i n)

pub in_order-same : (f g : ℕ → List ℕ) (n : ℕ) → ((i : ℕ) → i < n → f i ≡ g i) → in_order f n ≡ in_order g n
unfolding in_order
in_order-same f g zero e = refl
in_order-same f g (suc n) e = ap₂ ◌++◌ (in_order-same f g n (λ i h. e i (omega arith))) (e n (omega arith))

-- a list's own parts, in order
pub in_order_parts : (l : List ℕ) (w n : ℕ) → in_order (λ i. take w (drop (w * i) l)) n ≡ take (w * n) l
unfolding in_order
in_order_parts l w zero = sym (ap (λ k. take k l) (mul-zero w))
in_order_parts l w (suc n) =
    ap (λ (s : List ℕ). s ++ take w (drop (w * n) l)) (in_order_parts l w n)
    ∙ sym (take-add (w * n) w l)
    ∙ ap (λ k. take k l) (sym (mul-suc w n))
