-- What is promised of a sound book, in one place: a book has one n and one m, any two results that the contract of `sound` allows are the same;
-- and how far the places of its refusals go. All for every n at once.
use mathlib.Core.Path.{◌≡◌, sym, ap, ap₂, ◌∙◌}
use mathlib.Core.List.{List}
use mathlib.Core.Logic.{⊎_elim}
use Prim.Native.Nat.{ℕ, ◌≤◌, ◌<◌}
use native.Mathlib.Omega.{arith}
use Rattle.ground.proofs.Bools.{lt_or_ge}
use Rattle.refusal.specs.declared.Refusal.{Refusal}
use Rattle.std.specs.Prelude.{Result, Ok, Err}
use Rattle.refusal.specs.declared.Refusal.TheVariants.{BookLength}
use Rattle.refusal.specs.Refusals.{place}
use Rattle.refusal.specs.Order.{First, Never, when}
use Rattle.refusal.proofs.OrderLaws.{first_unique, first-clear, when-never, PlacesBelow, first-place-below}
use Rattle.book_sound.specs.declared.Size.{Size}
use Rattle.book_sound.specs.Sound.{Sound}
use Rattle.book_sound.specs.Rows.{blocks, Whole, settings_of, book_rows}
use Rattle.book_sound.specs.Promise.{size, Judges}
use Rattle.book_sound.proofs.SoundLaws.{sound-settings, sound-posts, sound-clear}

-- ---- one result alone

-- a book's two numbers
pub sound-one : {book : List ℕ} {n m k l : ℕ} → Sound book n m → Sound book k l → (n ≡ k) × (m ≡ l)
sound-one s t = (sym (sound-settings s) ∙ sound-settings t, sym (sound-posts s) ∙ sound-posts t)

-- `sound`
pub judges_one : (book : List ℕ) (a b : Result Size Refusal) → Judges book a → Judges book b → a ≡ b
judges_one book (Ok a) (Ok b) s t = let e = sound-one s t in ap₂ (λ n m. Ok (size n m)) e.0 e.1
judges_one book (Ok a) (Err r) s f = first-clear f (sound-clear s)
judges_one book (Err r) (Ok b) f s = first-clear f (sound-clear s)
judges_one book (Err r) (Err s) f g = ap Err (first_unique f g)

-- ---- how far a place goes: the C interface packs it beside the number

whole-most : {book : List ℕ} → Never (when (Whole book → ⊥) BookLength) → blocks book ≤ 8
whole-most {book} never =
    ⊎_elim (λ (h : 8 < blocks book). absurd (when-never never (λ w. omega (arith, w.most)))) (λ h. h) (lt_or_ge 8 (blocks book))

pub book_places : (book : List ℕ) → PlacesBelow 9 (book_rows book)
unfolding book_rows settings_of
book_places book = (
  (λ i g. omega arith),
  λ whole. (
    (λ i g. omega (arith, g.0, whole-most whole)),
    λ _. ((λ i g. omega arith), λ _. ((λ i g. omega (arith, g.1, whole-most whole)), λ _. tt)),
  ),
)

pub book_place-small : (book : List ℕ) (r : Refusal) → First (book_rows book) r → place r < 9
book_place-small book r f = first-place-below 9 (book_rows book) (book_places book) f
