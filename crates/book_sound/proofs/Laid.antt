-- A book laid from its blocks, a head and one for each setting: each block is read back, and where each is as it must be the book is sound. A
-- whole book is laid from its own blocks.
use mathlib.Core.Path.{◌≡◌, sym, ap, ◌∙◌, subst}
use mathlib.Core.List.{List, ◌++◌}
use Prim.Native.Nat.{ℕ, zero, suc, ◌+◌, ◌*◌, ◌<◌}
use native.Mathlib.Omega.{arith}
use native.Mathlib.Numerals.{add-one}
use lib.ListN.{length, take, drop, take-append-drop, length-drop, length-append}
use lib.Seq.{sets, take_all, take_at, drop-drop, drop-append-add}
use Rattle.ground.specs.Bounds.{SettingsFit, PostsFit}
use Rattle.book_block.specs.Check.{block, RightCheck}
use Rattle.book_block.specs.Kinds.{Head, SettingBlock}
use Rattle.book_block.proofs.SealLaws.{run_on}
use Rattle.book_sound.specs.Sound.{Sound, in_order}
use Rattle.book_sound.proofs.InOrder.{length-in_order, part_in_order, in_order-same, in_order_parts}

-- one turn of a loop that lays pieces of one width into a room, from a place on
pub lay_on : (f : ℕ → List ℕ) (w : ℕ) (l r₁ r₂ : List ℕ) (from at i : ℕ) → ((k : ℕ) → k < i → length (f k) ≡ w) → from + w * i ≡ at
    → r₁ ≡ sets l from (in_order f i) → r₂ ≡ sets r₁ at (f i) → r₂ ≡ sets l from (in_order f (i + 1))
unfolding in_order
lay_on f w l r₁ r₂ from at i long e p q =
    rw add-one
    (run_on l r₁ r₂ (in_order f i) (f i) from at (ap (λ k. from + k) (length-in_order f w i long) ∙ e) p q)

module _ (h : List ℕ) (f : ℕ → List ℕ) (n : ℕ) (head-long : length h ≡ 512) (long : (i : ℕ) → i < n → length (f i) ≡ 512) where
  pub length-laid : length (h ++ in_order f n) ≡ 512 * (1 + n)
  length-laid =
      let b : length (in_order f n) ≡ 512 * n = length-in_order f 512 n long in
      simp length-append (omega arith)

  pub laid-head : block (h ++ in_order f n) 0 ≡ h
  unfolding block
  laid-head = take_at h (in_order f n) 512 head-long

  pub laid-setting : (i : ℕ) → i < n → block (h ++ in_order f n) (1 + i) ≡ f i
  unfolding block
  laid-setting i k =
      let e : length h + 512 * i ≡ 512 * (1 + i) = omega arith in
      ap (take 512) (ap (λ (j : ℕ). drop j (h ++ in_order f n)) (sym e) ∙ drop-append-add h (in_order f n) (512 * i))
      ∙ part_in_order f 512 n long i k

  pub laid-sound : {m : ℕ} → SettingsFit n → PostsFit m → RightCheck h → Head n m h
      → ((i : ℕ) → i < n → RightCheck (f i)) → ((i : ℕ) → i < n → SettingBlock n m (f i)) → Sound (h ++ in_order f n) n m
  laid-sound {m} settings posts right head rights blocks =
      record {
        settings = settings;
        posts = posts;
        size = length-laid;
        checks = check;
        head = subst (Head n m) (sym laid-head) head;
        setting = λ i k. subst (SettingBlock n m) (sym (laid-setting i k)) (blocks i k);
      }
    where
      check : (k : ℕ) → k < 1 + n → RightCheck (block (h ++ in_order f n) k)
      check zero k = subst RightCheck (sym laid-head) right
      check (suc i) k =
          let e : 1 + i ≡ suc i = omega arith in
          subst (λ j. RightCheck (block (h ++ in_order f n) j)) e
          (subst RightCheck (sym (laid-setting i (omega arith))) (rights i (omega arith)))

-- a book's own blocks, in order
pub laid-again : (book : List ℕ) (n : ℕ) → length book ≡ 512 * (1 + n) → block book 0 ++ in_order (λ i. block book (1 + i)) n ≡ book
unfolding block
laid-again book n e =
    ap (λ (s : List ℕ). take 512 book ++ s)
    (in_order-same _ (λ i. take 512 (drop (512 * i) (drop 512 book))) n
    (λ i k. ap (take 512) (ap (λ j. drop j book) (shift i) ∙ sym (drop-drop (512 * i) 512 book)))
    ∙ in_order_parts (drop 512 book) 512 n
    ∙ take_all (512 * n) (drop 512 book) (rw length-drop (omega arith)))
    ∙ take-append-drop 512 book
  where
    shift : (i : ℕ) → 512 * (1 + i) ≡ 512 + 512 * i
    shift i = omega arith
