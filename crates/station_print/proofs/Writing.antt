-- What the functions that write have in common: pieces in order.
use mathlib.Core.List.{List}
use Prim.Native.Nat.{ℕ, zero, suc, ◌+◌, ◌*◌, ◌≤◌, ◌<◌}
use native.Mathlib.Nat.{suc-mul}
use native.Mathlib.Numerals.{add-one}
use native.Mathlib.Omega.{arith}
use lib.ListN.{length, length-append}
use Rattle.ground.proofs.Search.{below_suc}
use Rattle.book_sound.specs.Sound.{in_order}
use Rattle.print_room.specs.Wrote.{Ends, Wrote}
use Rattle.print_room.proofs.Writing.{wrote_then}

-- one piece for each number below n
module _ (f : ℕ → List ℕ) where
  pub order_more : {a b c : List ℕ} {i to at next : ℕ} → Wrote a to (in_order f i) b at → Wrote b at (f i) c next → Wrote a to (in_order f (i + 1)) c next
  unfolding in_order
  order_more {i = i} w v = rw (add-one i) (wrote_then w v)

  order_part : (n i : ℕ) → i < n → length (in_order f i) + length (f i) ≤ length (in_order f n)
  unfolding in_order
  order_part zero i h = absurd (omega arith)
  order_part (suc n) i h =
      below_suc i n h (λ e. rw e (omega (arith, length-append (in_order f n) (f n)))) (λ l. omega (arith, order_part n i l, length-append (in_order f n) (f n)))

  pub order_ends : {a b : List ℕ} {to at : ℕ} (n i : ℕ) → i < n → Ends to (in_order f n) → Wrote a to (in_order f i) b at → Ends at (f i)
  order_ends n i h e w = record { below = omega (arith, e.below, w.next_place, order_part n i h) }

  -- how long they are, where the first is no longer than `first`, and each other no longer than `rest`
  pub order_length : (first rest : ℕ) → length (f 0) ≤ first → ((i : ℕ) → length (f (suc i)) ≤ rest) → (n : ℕ) → length (in_order f (suc n)) ≤ first + n * rest
  unfolding in_order
  order_length first rest h k zero = omega (arith, h)
  order_length first rest h k (suc n) =
      omega (arith, length-append (in_order f (suc n)) (f (suc n)), order_length first rest h k n, k n, suc-mul n rest)
