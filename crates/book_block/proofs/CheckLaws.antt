-- The check reads the first 508 bytes alone, so lists that agree there have the same one. By induction on the count of bytes.
use Rattle.std.proofs.Common.{◌≡◌, ℕ, zero, suc, ◌+◌, ◌*◌, ◌<◌, List, get_or, drop, sym, refl, ap, ◌∙◌, ap₂, add-one, arith, lit<, get_or-take}
use Rattle.book_block.specs.declared.sums.Sums.{Sums}
use Rattle.book_block.specs.Check.{added, sums_after, check, number16, block, RightCheck}

pub sums_same : (a b : List ℕ) (n : ℕ) → ((j : ℕ) → j < n → get_or a j 0 ≡ get_or b j 0) → sums_after a n ≡ sums_after b n
unfolding sums_after
sums_same a b zero same = refl
sums_same a b (suc n) same =
    ap₂ added (sums_same a b n (λ j h. same j (omega arith))) (same n (omega arith))

pub check-same : (a b : List ℕ) → ((j : ℕ) → j < 508 → get_or a j 0 ≡ get_or b j 0) → check a ≡ check b
unfolding check
check-same a b same = sums_same a b 508 same

pub right-same : (a b : List ℕ) → ((j : ℕ) → j < 512 → get_or a j 0 ≡ get_or b j 0) → RightCheck a → RightCheck b
unfolding number16
right-same a b same right =
    let e : check a ≡ check b = check-same a b (λ j h. same j (omega arith)) in
    record {
      holds_s = ap₂ (λ x y. x + 256 * y) (sym (same 508 (lit< tt))) (sym (same 509 (lit< tt))) ∙ right.holds_s ∙ ap (λ (c : Sums). c.s) e;
      holds_t = ap₂ (λ x y. x + 256 * y) (sym (same 510 (lit< tt))) (sym (same 511 (lit< tt))) ∙ right.holds_t ∙ ap (λ (c : Sums). c.t) e;
    }

-- block k, and all from its first byte on
pub block-byte : (book : List ℕ) (k j : ℕ) → j < 512 → get_or (block book k) j 0 ≡ get_or (drop (512 * k) book) j 0
unfolding block
block-byte book k j h = get_or-take 512 (drop (512 * k) book) j 0 h

pub right-block : (book : List ℕ) (k : ℕ) → RightCheck (drop (512 * k) book) → RightCheck (block book k)
right-block book k = right-same _ _ (λ j h. sym (block-byte book k j h))

pub right-drop : (book : List ℕ) (k : ℕ) → RightCheck (block book k) → RightCheck (drop (512 * k) book)
right-drop book k = right-same _ _ (block-byte book k)

-- one turn of the loop over the bytes
pub sums-step : (bytes : List ℕ) (i : ℕ) (x : Sums) (v : ℕ) → x ≡ sums_after bytes i → v ≡ get_or bytes i 0 → added x v ≡ sums_after bytes (i + 1)
unfolding sums_after
sums-step bytes i x v e b = ap₂ added e b ∙ ap (sums_after bytes) (sym (add-one i))
