-- What is promised of a salvage, in one place: one result alone, the room included; which answer exactly; the result reads as a book, and salvaged
-- again it is the same bytes; a sound book comes back as it was; and which rules the salvaged book has. All for every n at once.
use mathlib.Core.Path.{◌≡◌, refl, sym, ap, ap₂, ◌∙◌, subst}
use mathlib.Core.Logic.{◌↔◌}
use mathlib.Core.Bool.{true, false}
use mathlib.Core.List.{List, ◌++◌}
use Prim.Native.Nat.{ℕ, ◌+◌, ◌-◌, ◌*◌, ◌≤◌, ◌<◌}
use native.Mathlib.Nat.{le_of_eq}
use native.Mathlib.Omega.{arith}
use lib.ListN.{length, take, drop, replicate}
use lib.Seq.{take_at}
use Rattle.ground.specs.Digits.{bit}
use Rattle.refusal.specs.declared.Refusal.{Refusal}
use Rattle.refusal.specs.Refusals.{place}
use Rattle.refusal.specs.Order.{First, Clear}
use Rattle.refusal.proofs.OrderLaws.{first_unique, first-clear, first-place-below}
use Rattle.book_block.specs.declared.rule.Right.{Right}
use Rattle.book_block.specs.Rule.{rule}
use Rattle.book_block.specs.Check.{block}
use Rattle.book_sound.specs.Sound.{Sound}
use Rattle.book_sound.specs.Rows.{Whole, settings_of, posts_of}
use Rattle.book_sound.proofs.SoundLaws.{sound-settings, sound-posts, sound-whole, sound-head-right}
use Rattle.std.specs.Prelude.{Result, Ok, Err}
use Rattle.book_salvage.specs.declared.Salvaged.{Salvaged}
use Rattle.book_salvage.specs.Salvaged.{MarksOf, ones, closed_block, setting_after, salvaged_book}
use Rattle.book_salvage.specs.Rows.{HeadStands, salvage_rows}
use Rattle.book_salvage.specs.Promise.{salvaged, SalvagesTo, Salvages}
use Rattle.book_salvage.proofs.MarkLaws.{marks-one, marks-none, ones_none, ones_zero, ones-most, ones-past, marked-small-byte}
use Rattle.book_salvage.proofs.LaidLaws.{after-marked, after_unmarked, length_salvaged, salvaged_head, salvaged_setting, salvaged_sound, salvaged_same}
use Rattle.book_salvage.proofs.RefusalLaws.{whole-size, whole-settings, refuse_none}
use Rattle.book_salvage.proofs.RuleLaws.{rule-kept, rule_closed}

-- ---- one result alone

to_one : {book room : List ℕ} {a b c d : ℕ} {x y : List ℕ} → SalvagesTo book room a c x → SalvagesTo book room b d y
    → (salvaged a c ≡ salvaged b d) × (x ≡ y)
to_one {book} {room} p q =
    let e = marks-one p.marked q.marked in (
      ap₂ salvaged e (p.counted ∙ ap (ones 8) e ∙ sym q.counted),
      p.filled ∙ ap (λ k. salvaged_book book k (settings_of book) ++ drop (length book) room) e ∙ sym q.filled,
    )

-- `salvage`: any two results that its contract allows are the same, the room included
pub salvage_one : (book room : List ℕ) (a b : Result Salvaged Refusal) (x y : List ℕ) → Salvages book room a x → Salvages book room b y → (a ≡ b) × (x ≡ y)
salvage_one book room (Ok a) (Ok b) x y p q = let o = to_one p q in (ap Ok o.0, o.1)
salvage_one book room (Ok a) (Err r) x y p q = first-clear q.0 (refuse_none book room p.whole p.head p.fits)
salvage_one book room (Err r) (Ok b) x y p q = first-clear p.0 (refuse_none book room q.whole q.head q.fits)
salvage_one book room (Err r) (Err s) x y p q = (ap Err (first_unique p.0 q.0), p.1 ∙ sym q.1)

-- ---- which answer, exactly: each refusal where it is the first in the order, and a salvaged book where none is given

module _ (book room : List ℕ) (a : Result Salvaged Refusal) (x : List ℕ) (so : Salvages book room a x) where
  pub refused_exactly : (r : Refusal) → (a ≡ Err r) ↔ First (salvage_rows book room) r
  refused_exactly r = (
    λ e. (subst (λ (b : Result Salvaged Refusal). Salvages book room b x) e so).0,
    λ f. (salvage_one book room a (Err r) x room so (f, refl)).0,
  )

  pub salvaged_exactly : ((marks : ℕ) × (count : ℕ) × (a ≡ Ok (salvaged marks count))) ↔ (Whole book × HeadStands book × (length book ≤ length room))
  salvaged_exactly = (
    λ (marks, count, e). let s = subst (λ (b : Result Salvaged Refusal). Salvages book room b x) e so in (s.whole, s.head, s.fits),
    λ (whole, head, fits). by a so (refuse_none book room whole head fits),
  )
    where
      by : (b : Result Salvaged Refusal) → Salvages book room b x → Clear (salvage_rows book room) → (marks : ℕ) × (count : ℕ) × (b ≡ Ok (salvaged marks count))
      by (Ok a) s none = (a.marks, a.count, refl)
      by (Err r) s none = first-clear s.0 none

-- ---- the result reads as a book

module _ {book room after : List ℕ} {marks count : ℕ} (s : SalvagesTo book room marks count after) where
  long : length (salvaged_book book marks (settings_of book)) ≡ length book
  long = length_salvaged book marks (settings_of book) (le_of_eq (sym (whole-size s.whole))) ∙ sym (whole-size s.whole)

  -- the bytes that were written
  pub salvaged_bytes : take (length book) after ≡ salvaged_book book marks (settings_of book)
  salvaged_bytes = ap (take (length book)) s.filled ∙ take_at (salvaged_book book marks (settings_of book)) _ (length book) long

  -- as many as the book has
  pub salvaged_length : length (take (length book) after) ≡ length book
  salvaged_length = ap length salvaged_bytes ∙ long

  -- "The result always reads as a book", of the head's n and m
  pub salvaged_reads : Sound (take (length book) after) (settings_of book) (posts_of book)
  salvaged_reads =
      subst (λ b. Sound b (settings_of book) (posts_of book)) (sym salvaged_bytes)
      (salvaged_sound book marks (settings_of book) (le_of_eq (sym (whole-size s.whole))) (whole-settings s.whole) s.head.says.posts
      s.head.check s.head.says.head s.marked)

  -- "how many were replaced": the count is of the book's settings, those that are marked
  pub counted-settings : count ≡ ones (settings_of book) marks
  counted-settings =
      let n = settings_of book in
      let e : n + (8 - n) ≡ 8 = omega (arith, (whole-settings s.whole).most) in
      s.counted ∙ ap (λ k. ones k marks) (sym e) ∙ ones-past n (8 - n) marks s.marked.within

  -- and it is 0 exactly where nothing is marked
  pub count_none : (count ≡ 0) ↔ (marks ≡ 0)
  count_none = (
    λ e. ones_zero (settings_of book) marks s.marked.within (sym counted-settings ∙ e),
    λ e. s.counted ∙ ap (ones 8) e ∙ ones_none,
  )

  -- ---- block by block: "every sound block stays byte for byte", and the others are closed

  blocks-there : 512 * (1 + settings_of book) ≤ length book
  blocks-there = le_of_eq (sym (whole-size s.whole))

  pub head_stays : block (take (length book) after) 0 ≡ block book 0
  head_stays = ap (λ (b : List ℕ). block b 0) salvaged_bytes ∙ salvaged_head book marks (settings_of book) blocks-there

  module _ (i : ℕ) (setting : i < settings_of book) where
    after_block : block (take (length book) after) (1 + i) ≡ setting_after book marks i
    after_block = ap (λ (b : List ℕ). block b (1 + i)) salvaged_bytes ∙ salvaged_setting book marks (settings_of book) blocks-there i setting

    pub unmarked_stays : bit marks i ≡ false → block (take (length book) after) (1 + i) ≡ block book (1 + i)
    unmarked_stays e = after_block ∙ after_unmarked book marks i e

    pub marked_closed : bit marks i ≡ true → block (take (length book) after) (1 + i) ≡ closed_block
    marked_closed e = after_block ∙ after-marked book marks i e

-- ---- a sound book

-- a sound book comes back as its own bytes, with no mark
pub sound_salvaged : {book : List ℕ} {n m : ℕ} (room : List ℕ) (answer : Result Salvaged Refusal) (after : List ℕ) → Sound book n m → length book ≤ length room
    → Salvages book room answer after → (answer ≡ Ok (salvaged 0 0)) × (after ≡ book ++ drop (length book) room)
sound_salvaged {book} {n} {m} room answer after sound fits so =
    salvage_one book room answer (Ok (salvaged 0 0)) after (book ++ drop (length book) room) so
    (record {
      whole = sound-whole sound;
      head = record { check = sound.checks 0 (omega arith); says = sound-head-right sound };
      fits = fits;
      marked =
          subst (λ k. MarksOf book k (posts_of book) 0) (sym (sound-settings sound))
          (subst (λ k. MarksOf book n k 0) (sym (sound-posts sound))
          (marks-none (λ i h. record { check = sound.checks (1 + i) (omega arith); clean = sound.setting i h })));
      counted = sym ones_none;
      filled =
          ap (λ (b : List ℕ). b ++ drop (length book) room)
          (sym (salvaged_same book (settings_of book) (sound.size ∙ ap (λ k. 512 * (1 + k)) (sym (sound-settings sound)))));
    })

-- "Salvaging twice gives the same bytes as once", and no mark the second time
pub salvaged_twice : {book room after : List ℕ} {marks count : ℕ} (room₂ : List ℕ) (answer : Result Salvaged Refusal) (after₂ : List ℕ)
    → SalvagesTo book room marks count after → length book ≤ length room₂ → Salvages (take (length book) after) room₂ answer after₂
    → (answer ≡ Ok (salvaged 0 0)) × (after₂ ≡ take (length book) after ++ drop (length book) room₂)
salvaged_twice {book} {after = after} room₂ answer after₂ s fits so =
    let e : length (take (length book) after) ≡ length book = salvaged_length s in
    let again = sound_salvaged room₂ answer after₂ (salvaged_reads s) (subst (λ k. k ≤ length room₂) (sym e) fits) so in
    (again.0, again.1 ∙ ap (λ k. take (length book) after ++ drop k room₂) e)

-- ---- the rules of the salvaged book

module _ {book room after : List ℕ} {marks count : ℕ} (s : SalvagesTo book room marks count after) (i q : ℕ) (right : Right) (setting : i < settings_of book)
    (post : q < 8) where
  -- of a setting without a mark: as they are stored
  pub unmarked_rule : bit marks i ≡ false → rule (take (length book) after) i q right ≡ rule book i q right
  unmarked_rule e =
      ap (λ (b : List ℕ). rule b i q right) (salvaged_bytes s) ∙ rule-kept book marks (settings_of book) (le_of_eq (sym (whole-size s.whole))) i q right setting post e

  -- of a marked one: all closed
  pub marked-rule : bit marks i ≡ true → rule (take (length book) after) i q right ≡ replicate 16 0
  marked-rule e =
      ap (λ (b : List ℕ). rule b i q right) (salvaged_bytes s) ∙ rule_closed book marks (settings_of book) (le_of_eq (sym (whole-size s.whole))) i q right setting post e

-- ---- how far the numbers go: the C interface packs them

pub salvage_place-small : (book room : List ℕ) (r : Refusal) → First (salvage_rows book room) r → place r < 9
unfolding salvage_rows
salvage_place-small book room r f =
    first-place-below 9 (salvage_rows book room) ((λ i g. omega arith), λ _. ((λ i g. omega arith), λ _. ((λ i g. omega arith), λ _. tt))) f

pub salvage_small : {book room after : List ℕ} {marks count : ℕ} → SalvagesTo book room marks count after → (marks < 128) × (count ≤ 8)
salvage_small {marks = marks} s =
    (marked-small-byte s.marked (whole-settings s.whole).most, subst (λ c. c ≤ 8) (sym s.counted) (ones-most 8 marks))
