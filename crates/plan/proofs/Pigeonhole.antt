-- Tests that only grow, over things that a list of m covers, where a standstill lasts: nothing is added after the first m, since
-- until it stands still each test holds at one more entry of the list.
use mathlib.Core.Path.{◌≡◌, refl}
use mathlib.Core.Logic.{◌⊎◌, inl, inr}
use mathlib.Core.List.Memᴰ
use mathlib.Core.List.{List, [], ◌∷◌, Memᴰ}
use mathlib.Core.Bool.{Bool, true, false, not}
use Prim.Native.Nat.{ℕ, zero, suc, ◌+◌, ◌≤◌, ◌<◌}
use native.Mathlib.Nat.{zero-add, suc-add, add_comm}
use native.Mathlib.Omega.{arith}
use lib.Dec.{T}
use lib.ListN.{length}
use Rattle.ground.proofs.Bools.{decide, both}

abbrev one : Bool → ℕ
one true = 1
one false = 0

one_yes : (a : Bool) → T a → one a ≡ 1
one_yes true h = refl
one_yes false h = elim h [ ]

one_no : (a : Bool) → T (not a) → one a ≡ 0
one_no false h = refl
one_no true h = elim h [ ]

one_le : (a : Bool) → one a ≤ 1
one_le true = omega arith
one_le false = omega arith

-- at how many entries the test holds
abbrev count : (ℕ → Bool) → List ℕ → ℕ
count g [] = 0
count g (a ∷ l) = one (g a) + count g l

count-length : (g : ℕ → Bool) (l : List ℕ) → count g l ≤ length l
count-length g [] = omega arith
count-length g (a ∷ l) = omega (arith, one_le (g a), count-length g l)

-- the tests f 0, f 1, .. of the things that have M, each of which is in the list
module _ (f : ℕ → ℕ → Bool) (M : ℕ → Type 0) (list : List ℕ) (covers : (a : ℕ) → M a → Memᴰ a list)
    (grows : (t a : ℕ) → T (f t a) → T (f (suc t) a)) where
  one_grows : (t a : ℕ) → one (f t a) ≤ one (f (suc t) a)
  one_grows t a = elim (decide (f t a)) [
    | inl h ↦ omega (arith, one_yes (f (suc t) a) (grows t a h), one_le (f t a))
    | inr h ↦ omega (arith, one_no (f t a) h)
  ]

  count_grows : (t : ℕ) (l : List ℕ) → count (f t) l ≤ count (f (suc t)) l
  count_grows t [] = omega arith
  count_grows t (a ∷ l) = omega (arith, one_grows t a, count_grows t l)

  -- the test after t adds nothing
  abbrev Still : ℕ → Type 0
  Still t = (a : ℕ) → M a → T (f (suc t) a) → T (f t a)

  abbrev StillOn : ℕ → List ℕ → Type 0
  StillOn t l = (a : ℕ) → Memᴰ a l → T (f (suc t) a) → T (f t a)

  still_cons : (t a : ℕ) (l : List ℕ) → (T (f (suc t) a) → T (f t a)) → StillOn t l → StillOn t (a ∷ l)
  still_cons t a l here rest b m h = elim (Memᴰ.cases_cons m) [
    | inl e ↦ rw e (here (rw e at h))
    | inr m' ↦ rest b m' h
  ]

  still_or_more : (t : ℕ) (l : List ℕ) → StillOn t l ⊎ (count (f t) l < count (f (suc t)) l)
  still_or_more t [] = inl (λ a m h. absurd (Memᴰ.not-nil m))
  still_or_more t (a ∷ l) = elim (still_or_more t l) [
    | inr more ↦ inr (omega (arith, one_grows t a))
    | inl still ↦ elim (decide (f t a)) [
      | inl h ↦ inl (still_cons t a l (λ k. h) still)
      | inr h ↦ elim (decide (f (suc t) a)) [
        | inl k ↦ inr (omega (arith, one_no (f t a) h, one_yes (f (suc t) a) k, count_grows t l))
        | inr k ↦ inl (still_cons t a l (λ j. both (f (suc t) a) j k) still)
      ]
    ]
  ]

  module _ (lasts : (t : ℕ) → Still t → Still (suc t)) where
    still_by : (t : ℕ) → Still t ⊎ (t < count (f (suc t)) list)
    still_by zero = elim (still_or_more zero list) [
      | inl still ↦ inl (λ a m. still a (covers a m))
      | inr more ↦ inr (omega arith)
    ]
    still_by (suc t) = elim (still_by t) [
      | inl still ↦ inl (lasts t still)
      | inr many ↦ elim (still_or_more (suc t) list) [
        | inl still ↦ inl (λ a m. still a (covers a m))
        | inr more ↦ inr (omega arith)
      ]
    ]

    still_then : (d : ℕ) → Still (d + length list)
    still_then zero = rw zero-add (elim (still_by (length list)) [
      | inl still ↦ still
      | inr many ↦ absurd (omega (arith, count-length (f (suc (length list))) list))
    ])
    still_then (suc d) = rw suc-add (lasts (d + length list) (still_then d))

    down : (d a : ℕ) → M a → T (f (d + length list) a) → T (f (length list) a)
    down zero a m h = rw zero-add at h
    down (suc d) a m h = down d a m (still_then d a m (rw suc-add at h))

    up : (d t a : ℕ) → T (f t a) → T (f (d + t) a)
    up zero t a h = rw zero-add h
    up (suc d) t a h = rw suc-add (grows (d + t) a (up d t a h))

    pub settles : (t a : ℕ) → M a → T (f t a) → T (f (length list) a)
    settles t a m h = down t a m (rw (add_comm t (length list)) (up (length list) t a h))
