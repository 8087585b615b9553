-- What the stores of a block's bytes add up to: each is a run of bytes that goes on where the last one ended, and the check of what stands in the
-- room is that of the bytes stored. A block with a right check is its first 508 bytes, sealed; and what is sealed has a right check.
use Rattle.std.proofs.Common.{◌≡◌, ℕ, ◌+◌, ◌*◌, ◌/◌, ◌%◌, ◌<◌, ◌≤◌, List, [], ◌∷◌, ◌++◌, length, get_or, take, drop, sym, ap, ◌∙◌, ap₂, arith, lit<, length-append, take-append-drop, drop_of_length-le, get_or-drop, drop-cons, get_or-take, get_or-append-add, le-leb}
use lib.ListN.{get_or-append}
use lib.Seq.{sets, length-sets}
use Rattle.book_block.specs.declared.sums.Sums.{Sums}
use Rattle.book_block.specs.Check.{check, number16, RightCheck}
use borrow.Author.Tests.{lt-leb}
use Rattle.book_block.specs.Sealed.{bytes16, check_bytes, sealed, sealed_at}
use Rattle.ground.proofs.Lists.{sets-append, get_d_sets}
use Rattle.book_block.proofs.CheckLaws.{check-same}

-- one run after another
pub run_on : (l r₁ r₂ a b : List ℕ) (i k : ℕ) → i + length a ≡ k → r₁ ≡ sets l i a → r₂ ≡ sets r₁ k b → r₂ ≡ sets l i (a ++ b)
run_on l r₁ r₂ a b i k e p q =
    q ∙ ap₂ (λ (s : List ℕ) (n : ℕ). sets s n b) p (sym e) ∙ sym (sets-append l i a b)

-- ---- the stores of a block

-- the check of what stands in the room, once the first 508 bytes of the block do
written-check : (l body : List ℕ) (at : ℕ) → length body ≡ 508 → at + 512 ≤ length l → check (drop at (sets l at body)) ≡ check body
written-check l body at e h =
    check-same _ _
    (λ j k. get_or-drop at (sets l at body) j 0 ∙ get_d_sets l at body j (omega arith) (omega arith))

-- where the room has a whole block, and where it has none
pub sealed-at : (room : List ℕ) (at : ℕ) → at + 512 ≤ length room → sealed_at room at ≡ sets room (at + 508) (check_bytes (drop at room))
unfolding sealed_at
sealed-at room at h = rw (sealed_at, le-leb (at + 512) (length room) h)

pub not-sealed : (room : List ℕ) (at : ℕ) → length room < at + 512 → sealed_at room at ≡ room
unfolding sealed_at
not-sealed room at h = rw (sealed_at, lt-leb (at + 512) (length room) h)

pub seal_on : (l r₁ r₂ body : List ℕ) (at : ℕ) → length body ≡ 508 → at + 512 ≤ length l → r₁ ≡ sets l at body
    → r₂ ≡ sealed_at r₁ at → r₂ ≡ sets l at (sealed body)
unfolding sealed check_bytes
seal_on l r₁ r₂ body at e h p q =
    let len : length r₁ ≡ length l = ap length p ∙ length-sets l at body in
    let k : check (drop at r₁) ≡ check body = ap (λ (r : List ℕ). check (drop at r)) p ∙ written-check l body at e h in
    run_on l r₁ r₂ body (bytes16 (check body).s ++ bytes16 (check body).t) at (at + 508) (ap (λ (n : ℕ). at + n) e) p
    (q ∙ sealed-at r₁ at (omega arith) ∙ ap (λ (c : Sums). sets r₁ (at + 508) (bytes16 c.s ++ bytes16 c.t)) k)

pub length-sealed : (body : List ℕ) → length body ≡ 508 → length (sealed body) ≡ 512
unfolding sealed check_bytes bytes16
length-sealed body e = simp length-append (omega arith)

-- ---- from a block to its bytes

module _ (x : List ℕ) (e : length x ≡ 512) where
  last_four : drop 508 x ≡ get_or x 508 0 ∷ get_or x 509 0 ∷ get_or x 510 0 ∷ get_or x 511 0 ∷ []
  last_four =
      drop-cons x 508 0 (omega arith)
      ∙ ap (λ l. get_or x 508 0 ∷ l)
      (drop-cons x 509 0 (omega arith)
      ∙ ap (λ l. get_or x 509 0 ∷ l)
      (drop-cons x 510 0 (omega arith)
      ∙ ap (λ l. get_or x 510 0 ∷ l)
      (drop-cons x 511 0 (omega arith) ∙ ap (λ l. get_or x 511 0 ∷ l) (drop_of_length-le x {i = 512} (omega arith)))))

  check_front : check x ≡ check (take 508 x)
  check_front = check-same x (take 508 x) (λ j h. sym (get_or-take 508 x j 0 h))

  two_bytes : (a b s : ℕ) → a < 256 → a + 256 * b ≡ s → bytes16 s ≡ a ∷ b ∷ []
  unfolding bytes16
  two_bytes a b s h k = ap₂ (λ u v. u ∷ v ∷ []) (omega arith) (omega arith)

  pub right-sealed : ((j : ℕ) → j < 512 → get_or x j 0 < 256) → RightCheck x → x ≡ sealed (take 508 x)
  unfolding sealed check_bytes number16
  right-sealed byte right =
      sym (take-append-drop 508 x)
      ∙ ap (λ l. take 508 x ++ l)
      (last_four
      ∙ ap₂ ◌++◌
      (sym (two_bytes (get_or x 508 0) (get_or x 509 0) (check (take 508 x)).s (byte 508 (lit< tt)) (right.holds_s ∙ ap (λ (c : Sums). c.s) check_front)))
      (sym (two_bytes (get_or x 510 0) (get_or x 511 0) (check (take 508 x)).t (byte 510 (lit< tt)) (right.holds_t ∙ ap (λ (c : Sums). c.t) check_front))))

-- ---- from bytes to a block

module _ (body : List ℕ) (e : length body ≡ 508) where
  pub sealed-byte : (j : ℕ) → j < 508 → get_or (sealed body) j 0 ≡ get_or body j 0
  unfolding sealed
  sealed-byte j h = get_or-append body _ 0 j (omega arith)

  check-sealed : check (sealed body) ≡ check body
  check-sealed = check-same (sealed body) body sealed-byte

  after : (k : ℕ) → get_or (sealed body) (508 + k) 0 ≡ get_or (check_bytes body) k 0
  unfolding sealed
  after k = ap (λ n. get_or (sealed body) (n + k) 0) (sym e) ∙ get_or-append-add body _ k 0

  halves : (x : ℕ) → x % 256 + 256 * (x / 256) ≡ x
  halves x = omega arith

  pub sealed-right : RightCheck (sealed body)
  unfolding number16 check_bytes bytes16
  sealed-right =
      record {
        holds_s = ap₂ (λ a b. a + 256 * b) (after 0) (after 1) ∙ halves (check body).s ∙ sym (ap (λ (c : Sums). c.s) check-sealed);
        holds_t = ap₂ (λ a b. a + 256 * b) (after 2) (after 3) ∙ halves (check body).t ∙ sym (ap (λ (c : Sums). c.t) check-sealed);
      }
