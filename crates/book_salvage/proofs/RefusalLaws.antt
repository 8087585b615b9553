-- Each way out of `salvage` is the first refusal in the order or none: what was tested before shows that the rows before are not given.
use mathlib.Core.Path.{◌≡◌, sym, ap, ◌∙◌, subst}
use mathlib.Core.List.{List}
use Prim.Native.Nat.{ℕ, ◌+◌, ◌*◌, ◌≤◌, ◌<◌}
use native.Mathlib.Nat.{le_of_eq}
use native.Mathlib.Omega.{arith}
use lib.ListN.{length, get_or}
use lib.Seq.{sets}
use Rattle.ground.specs.Bounds.{SettingsFit}
use Rattle.ground.proofs.Lists.{filled}
use Rattle.refusal.specs.declared.Refusal.TheVariants.{BookLength, SalvageHead, Room}
use Rattle.refusal.specs.Order.{First, Clear}
use Rattle.refusal.proofs.OrderLaws.{first-when, first_past, clear_none, clear-past, clear-when}
use Rattle.book_sound.specs.Rows.{blocks, Whole, settings_of, posts_of}
use Rattle.book_sound.proofs.BookLaws.{whole_length}
use Rattle.book_sound.proofs.RefusalLaws.{head-n, head-m}
use Rattle.book_salvage.specs.Salvaged.{MarksOf, ones, salvaged_book}
use Rattle.book_salvage.specs.Rows.{HeadStands, salvage_rows}
use Rattle.book_salvage.specs.Promise.{SalvagesTo}
use Rattle.book_salvage.proofs.LaidLaws.{length_salvaged}

-- ---- a book of whole blocks: how long it is, and how many settings

module _ {book : List ℕ} (whole : Whole book) where
  pub whole-size : length book ≡ 512 * (1 + settings_of book)
  unfolding settings_of
  whole-size =
      let w : (length book ≡ 512 * blocks book) × (2 ≤ blocks book) × (blocks book ≤ 8) = whole_length whole in omega arith

  pub whole-settings : SettingsFit (settings_of book)
  unfolding settings_of
  whole-settings =
      let w : (length book ≡ 512 * blocks book) × (2 ≤ blocks book) × (blocks book ≤ 8) = whole_length whole in
      record { least = omega arith; most = omega arith }

-- ---- the refusals, and none

module _ (book room : List ℕ) where
  pub refuse_length : (Whole book → ⊥) → First (salvage_rows book room) BookLength
  unfolding salvage_rows
  refuse_length never = first-when never

  module _ (whole : Whole book) where
    pub refuse_head : (HeadStands book → ⊥) → First (salvage_rows book room) SalvageHead
    unfolding salvage_rows
    refuse_head never = first_past whole (first-when never)

    module _ (head : HeadStands book) where
      pub refuse_room : length room < length book → First (salvage_rows book room) Room
      unfolding salvage_rows
      refuse_room short = first_past whole (first_past head (first-when short))

      pub refuse_none : length book ≤ length room → Clear (salvage_rows book room)
      unfolding salvage_rows
      refuse_none fits = clear-past whole (clear-past head (clear-when (λ short. omega arith) clear_none))

      -- what the writing left, by the numbers that the head says
      pub salvages_to : (n m marks count : ℕ) (after : List ℕ) → length book ≤ length room → n ≡ get_or book 0 0 → m ≡ get_or book 1 0
          → MarksOf book n m marks → count ≡ ones 8 marks → after ≡ sets room 0 (salvaged_book book marks n) → SalvagesTo book room marks count after
      salvages_to n m marks count after fits en em marked counted p =
          let same-n : n ≡ settings_of book = en ∙ head-n head.says in
          let same-m : m ≡ posts_of book = em ∙ head-m head.says in
          let long : length (salvaged_book book marks (settings_of book)) ≡ length book =
          length_salvaged book marks (settings_of book) (le_of_eq (sym (whole-size whole))) ∙ sym (whole-size whole) in
          record {
            whole = whole;
            head = head;
            fits = fits;
            marked = subst (λ k. MarksOf book k (posts_of book) marks) same-n (subst (λ k. MarksOf book n k marks) same-m marked);
            counted = counted;
            filled =
                filled room after (salvaged_book book marks (settings_of book)) (length book) long fits
                (p ∙ ap (λ k. sets room 0 (salvaged_book book marks k)) same-n);
          }
