-- What is promised of reading and writing a book, in one place: for each public function, that any two results that its contract allows are the
-- same, the room included; and the two round trips. All for every n at once.
use mathlib.Core.Path.{◌≡◌, refl, sym, ap, ap₂, ◌∙◌, subst}
use mathlib.Core.List.{List, ◌++◌}
use mathlib.Core.Logic.{⊎_elim}
use Prim.Native.Nat.{ℕ, ◌+◌, ◌*◌, ◌≤◌, ◌<◌}
use native.Mathlib.Omega.{arith}
use lib.ListN.{length, get_or, take, drop}
use lib.Seq.{take_at}
use Rattle.std.specs.Prelude.{Result, Ok, Err}
use Rattle.book_sound.specs.declared.Size.{Size}
use Rattle.book_sound.specs.Promise.{size}
use Rattle.book_sound.specs.Sound.{Sound, rights_of}
use Rattle.book.specs.Written.{book_of, Writable}
use Rattle.refusal.specs.declared.Refusal.{Refusal}
use Rattle.refusal.specs.declared.Refusal.TheVariants.{Settings}
use Rattle.refusal.specs.Refusals.{place}
use Rattle.refusal.specs.Order.{First, Never, when}
use Rattle.refusal.proofs.OrderLaws.{first_unique, first-clear, when-never, first-place-below, places_append}
use Rattle.ground.specs.Bounds.{SettingsFit}
use Rattle.ground.proofs.Bools.{lt_or_ge}
use Rattle.book.specs.Rows.{read_rows, write_rows}
use Rattle.book.specs.Promise.{ReadsBook, WritesBook}
use Rattle.book_sound.proofs.RightsLaws.{length_rights}
use Rattle.book_sound.specs.Rows.{book_rows}
use Rattle.book_sound.proofs.Theorems.{sound-one, book_places}
use Rattle.book.proofs.RefusalLaws.{read-clear}
use Rattle.book.proofs.WriteLaws.{length_book}
use Rattle.book.proofs.RoomLaws.{writable_clear}
use Rattle.book.proofs.RoundTrip.{book_again, read_writable, written-sound, rights_again}

-- ---- one result alone

-- `read`
pub reads-one : (book room : List ℕ) (a b : Result Size Refusal) (x y : List ℕ) → ReadsBook book room a x → ReadsBook book room b y → (a ≡ b) × (x ≡ y)
reads-one book room (Ok a) (Ok b) x y p q =
    let e = sound-one p.0 q.0 in
    (ap₂ (λ n m. Ok (size n m)) e.0 e.1, p.2 ∙ ap (λ i. rights_of book i ++ drop (256 * i) room) e.0 ∙ sym q.2)
reads-one book room (Ok a) (Err r) x y p q = first-clear q.0 (read-clear room p.0 p.1)
reads-one book room (Err r) (Ok b) x y p q = first-clear p.0 (read-clear room q.0 q.1)
reads-one book room (Err r) (Err s) x y p q = (ap Err (first_unique p.0 q.0), p.1 ∙ sym q.1)

-- `write`
pub writes_one : (n m : ℕ) (rights room : List ℕ) (a b : Result (Unit {0}) Refusal) (x y : List ℕ) → WritesBook n m rights room a x → WritesBook n m rights room b y → (a ≡ b) × (x ≡ y)
writes_one n m rights room (Ok _) (Ok _) x y p q = (refl, p.2 ∙ sym q.2)
writes_one n m rights room (Ok _) (Err r) x y p q = first-clear q.0 (writable_clear room p.0 p.1)
writes_one n m rights room (Err r) (Ok _) x y p q = first-clear p.0 (writable_clear room q.0 q.1)
writes_one n m rights room (Err r) (Err s) x y p q = (ap Err (first_unique p.0 q.0), p.1 ∙ sym q.1)

-- ---- the round trips

-- a book that reads, written from what was read, is the same bytes
pub read_then_write : (book room after out : List ℕ) (n m : ℕ) (answer : Result (Unit {0}) Refusal) (out' : List ℕ) → ((j : ℕ) → get_or book j 0 < 256)
    → ReadsBook book room (Ok (size n m)) after → WritesBook n m (take (256 * n) after) out answer out' → 512 * (1 + n) ≤ length out
    → (answer ≡ Ok tt) × (out' ≡ book ++ drop (512 * (1 + n)) out)
read_then_write book room after out n m answer out' byte read write h =
    writes_one n m (take (256 * n) after) out answer (Ok tt) out' (book ++ drop (512 * (1 + n)) out) write (
      subst (Writable n m) (sym same) (read_writable byte read.0),
      h,
      ap (λ (b : List ℕ). b ++ drop (512 * (1 + n)) out) (sym (ap (book_of n m) same ∙ book_again byte read.0)),
    )
  where
    same : take (256 * n) after ≡ rights_of book n
    same = ap (take (256 * n)) read.2 ∙ take_at (rights_of book n) _ (256 * n) (length_rights book n (omega (arith, read.0.size)))

-- rights that are written read back as the same rights
pub write_then_read : (n m : ℕ) (rights room after out : List ℕ) (answer : Result Size Refusal) (out' : List ℕ)
    → WritesBook n m rights room (Ok tt) after → ReadsBook (take (512 * (1 + n)) after) out answer out' → 256 * n ≤ length out
    → (answer ≡ Ok (size n m)) × (out' ≡ rights ++ drop (256 * n) out)
write_then_read n m rights room after out answer out' write read h =
    reads-one (take (512 * (1 + n)) after) out answer (Ok (size n m)) out' (rights ++ drop (256 * n) out) read (
      subst (λ b. Sound b n m) (sym same) (written-sound write.0),
      h,
      ap (λ (r : List ℕ). r ++ drop (256 * n) out) (sym (ap (λ b. rights_of b n) same ∙ rights_again write.0)),
    )
  where
    same : take (512 * (1 + n)) after ≡ book_of n m rights
    same = ap (take (512 * (1 + n))) write.2 ∙ take_at (book_of n m rights) _ (512 * (1 + n)) (length_book n m rights write.0.size)

-- ---- how far a place goes: the C interface packs it beside the number

pub read-place-small : (book room : List ℕ) (r : Refusal) → First (read_rows book room) r → place r < 9
unfolding read_rows
read-place-small book room r f =
    first-place-below 9 (read_rows book room) (places_append 9 (book_rows book) _ (book_places book) (λ _. ((λ i g. omega arith), λ _. tt))) f

settings_most : {n : ℕ} → Never (when (SettingsFit n → ⊥) Settings) → n ≤ 7
settings_most {n} never =
    ⊎_elim (λ (h : 7 < n). absurd (when-never never (λ s. omega (arith, s.most)))) (λ h. h) (lt_or_ge 7 n)

pub write_place-small : (n m : ℕ) (rights room : List ℕ) (r : Refusal) → First (write_rows n m rights room) r → place r < 9
unfolding write_rows
write_place-small n m rights room r f =
    first-place-below 9 (write_rows n m rights room) (
      (λ i g. omega arith),
      λ settings. (
        (λ i g. omega arith),
        λ _. ((λ i g. omega arith), λ _. ((λ i g. omega (arith, g.1, settings_most settings)), λ _. ((λ i g. omega arith), λ _. tt))),
      ),
    ) f
