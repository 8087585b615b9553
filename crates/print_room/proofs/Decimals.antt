-- The digits of a number below ten, and of any other from those of a tenth of it; all else on decimals follows from these two.
use mathlib.Core.Path.{◌≡◌, refl, sym, ap, ◌∙◌}
use mathlib.Core.Logic.{⊎_elim}
use mathlib.Core.List.{List, [], ◌∷◌, ◌++◌}
use Prim.Native.Nat.{ℕ, zero, suc, ◌+◌, ◌*◌, ◌^◌, ◌/◌, ◌%◌, ◌≤◌, ◌<◌}
use native.Mathlib.Nat.{pow-succ'}
use native.Mathlib.Omega.{arith}
use lib.ListN.{length, length-append}
use borrow.Author.Tests.{lt-ltb, le-ltb}
use Rattle.ground.proofs.Bools.{lt_or_ge}
use Rattle.print_room.specs.Decimal.{glyph, digits, decimal}

digits-small : (steps n : ℕ) → n < 10 → digits steps n ≡ glyph n ∷ []
digits-small zero n h = refl
digits-small (suc steps) n h = rw (lt-ltb n 10 h, digits)

digits_large : (steps n : ℕ) → 10 ≤ n → digits (suc steps) n ≡ digits steps (n / 10) ++ glyph (n % 10) ∷ []
digits_large steps n h = rw (le-ltb n 10 h, digits)

-- more steps change nothing
digits_steps : (f g n : ℕ) → n ≤ f → n ≤ g → digits f n ≡ digits g n
digits_steps zero g n hf hg = digits-small zero n (omega arith) ∙ sym (digits-small g n (omega arith))
digits_steps (suc f) zero n hf hg = digits-small (suc f) n (omega arith) ∙ sym (digits-small zero n (omega arith))
digits_steps (suc f) (suc g) n hf hg =
    ⊎_elim
    (λ (h : n < 10). digits-small (suc f) n h ∙ sym (digits-small (suc g) n h))
    (λ (h : 10 ≤ n).
    digits_large f n h
    ∙ ap (λ (s : List ℕ). s ++ glyph (n % 10) ∷ []) (digits_steps f g (n / 10) (omega arith) (omega arith))
    ∙ sym (digits_large g n h))
    (lt_or_ge n 10)

pub decimal-small : (n : ℕ) → n < 10 → decimal n ≡ glyph n ∷ []
unfolding decimal
decimal-small n h = digits-small n n h

pub decimal-more : (n : ℕ) → 10 ≤ n → decimal n ≡ decimal (n / 10) ++ glyph (n % 10) ∷ []
unfolding decimal
decimal-more zero h = absurd (omega arith)
decimal-more (suc m) h =
    digits_large m (suc m) h
    ∙ ap (λ (s : List ℕ). s ++ glyph (suc m % 10) ∷ []) (digits_steps m (suc m / 10) (suc m / 10) (omega arith) (omega arith))

length_more : (n : ℕ) → 10 ≤ n → length (decimal n) ≡ length (decimal (n / 10)) + 1
length_more n h = ap length (decimal-more n h) ∙ length-append (decimal (n / 10)) (glyph (n % 10) ∷ [])

tenth_below : (n b : ℕ) → n < 10 * b → n / 10 < b
tenth_below n b h = omega arith

-- a number below 10 ^ k, for k from 1 on, has at most k digits
pub decimal-length : (k n : ℕ) → n < 10 ^ suc k → length (decimal n) ≤ suc k
decimal-length zero n below = rw (decimal-small n (omega arith)) (omega arith)
decimal-length (suc k) n below =
    ⊎_elim
    (λ (h : n < 10). rw (decimal-small n h) (omega arith))
    (λ (h : 10 ≤ n). omega (arith, length_more n h, decimal-length k (n / 10) (tenth_below n (10 ^ suc k) (rw pow-succ' at below))))
    (lt_or_ge n 10)
