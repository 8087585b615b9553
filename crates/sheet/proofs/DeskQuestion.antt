-- What is asked on the desk, as the functions ask it: the question is the sheet's, so the book is written, the finder refuses nothing, and the plan
-- fits a room of 2,016 bytes and can be printed.
use mathlib.Core.Path.{◌≡◌, refl, sym, ap, ◌∙◌, subst, subst₂}
use mathlib.Core.Logic.{inl, inr}
use mathlib.Core.List.{List, ◌++◌}
use Prim.Native.Nat.{ℕ, ◌+◌, ◌*◌, ◌^◌, ◌≤◌}
use native.Mathlib.Nat.{pow-le-pow_right}
use native.Mathlib.Omega.{arith}
use lib.Dec.{lit<}
use lib.ListN.{length, take, drop, length-append}
use lib.Seq.{take_at}
use Rattle.std.proofs.Common.{Result, Ok, Err, IsOk}
use Rattle.refusal.specs.declared.Refusal.{Refusal}
use Rattle.refusal.proofs.OrderLaws.{first-clear}
use Rattle.book.specs.Written.{book_of, Writable}
use Rattle.book.specs.Promise.{WritesBook}
use Rattle.book.proofs.WriteLaws.{length_book}
use Rattle.book_sound.proofs.Theorems.{sound-one}
use Rattle.book.proofs.Theorems.{writes_one}
use Rattle.plan.specs.Plans.{System, Lawful, Plan}
use Rattle.plan.specs.Ranks.{Written}
use Rattle.plan.specs.Bytes.{encode}
use Rattle.plan.proofs.Size.{works_permitted}
use Rattle.plan.proofs.Written.{written_works}
use Rattle.print_answer.specs.Listed.{Lettered}
use Rattle.print_answer.proofs.Theorems.{permitted-lettered}
use Rattle.print_answer.specs.Printed.{cannot_text, reach_text, Prints}
use Rattle.question.specs.Question.{system_of, start_of}
use Rattle.question.specs.Asks.{ValidQuestion}
use Rattle.question.proofs.SystemLaws.{lawful}
use Rattle.finder.specs.Finds.{Finds}
use Rattle.finder.specs.Answers.{AnswersFrom}
use Rattle.finder.specs.declared.answer.Answer.{Answer}
use Rattle.finder.specs.declared.answer.Answer.TheVariants.{Reach, Cannot}
use Rattle.finder.proofs.FindLaws.{find_clear}
use Rattle.sheet_reading.specs.declared.Desk.{Desk}
use Rattle.sheet.specs.Answer.{SheetAsks, PrintsFound}
use Rattle.sheet.specs.Inner.{Whole, rights_in, book_in, question_in, goal_in}
use Rattle.sheet.proofs.SheetQuestion.{asked_writable, asked-valid, asked-most}
use Rattle.sheet.proofs.DeskRights.{rights_length, desk_question}

-- the system of the question on the desk, and its start
abbrev system : Desk → System
system d = system_of d.rules.settings (book_in d) (question_in d) (goal_in d)

abbrev start : Desk → ℕ
start d = start_of (question_in d)

module _ {d : Desk} (x : Whole d) where
  -- what holds of the sheet's question holds of the desk's
  on_desk : (P : ℕ → ℕ → Type 0) → P x.sheet.size.settings x.sheet.size.posts → P d.rules.settings d.rules.posts
  on_desk P h = subst₂ P (sym x.holds.rules.settings) (sym x.holds.rules.posts) h

  question : SheetAsks x.sheet (rights_in d) (question_in d) (goal_in d)
  question = desk_question x.holds x.well_formed

  desk_writable : Writable d.rules.settings d.rules.posts (rights_in d)
  desk_writable = on_desk (λ n m. Writable n m (rights_in d)) (asked_writable x.well_formed question)

  desk_valid : ValidQuestion (book_in d) (question_in d) (goal_in d) d.rules.settings d.rules.posts
  unfolding book_in
  desk_valid = on_desk (λ n m. ValidQuestion (book_of n m (rights_in d)) (question_in d) (goal_in d) n m) (asked-valid x.well_formed question)

  desk_lawful : Lawful d.rules.settings (system d)
  desk_lawful = lawful desk_valid

  few : d.rules.settings ≤ 7
  few = omega (arith, x.holds.few)

  plan-most : (p : Plan) → Written (system d) (start d) p → length (encode p) ≤ 2016
  unfolding book_in
  plan-most p t =
      on_desk (λ n m. Written (system_of n (book_of n m (rights_in d)) (question_in d) (goal_in d)) (start d) p → length (encode p) ≤ 2016)
      (λ u. (asked-most x.well_formed question (omega (arith, x.holds.rules.settings, x.holds.few)) (start d) p u).1) t

  pub book_length : length (book_in d) ≡ 512 * (1 + d.rules.settings)
  unfolding book_in
  book_length = length_book d.rules.settings d.rules.posts (rights_in d) (rights_length x.holds)

  -- the book is written, whatever the room held
  module _ (room after : List ℕ) (a : Result (Unit {0}) Refusal) (size : length room ≡ 3072) (wrote : WritesBook d.rules.settings d.rules.posts (rights_in d) room a after) where
    same : (a ≡ Ok tt) × (after ≡ book_of d.rules.settings d.rules.posts (rights_in d) ++ drop (512 * (1 + d.rules.settings)) room)
    same = writes_one d.rules.settings d.rules.posts (rights_in d) room a (Ok tt) after
        (book_of d.rules.settings d.rules.posts (rights_in d) ++ drop (512 * (1 + d.rules.settings)) room) wrote (desk_writable, omega (arith, x.holds.few, size), refl)

    pub desk_written : a ≡ Ok tt
    desk_written = same.0

    pub book_written : take (512 * (1 + d.rules.settings)) after ≡ book_in d
    unfolding book_in
    book_written =
        ap (take (512 * (1 + d.rules.settings))) same.1
        ∙ take_at (book_of d.rules.settings d.rules.posts (rights_in d)) (drop (512 * (1 + d.rules.settings)) room) (512 * (1 + d.rules.settings)) book_length

  -- the finder answers
  pub desk_found : {book : List ℕ} (ranks plan : List ℕ) (a : Result Answer Refusal) (ranks' plan' : List ℕ) → book ≡ book_in d → length ranks ≡ 16807
      → Finds book (question_in d) (goal_in d) ranks plan a ranks' plan' → AnswersFrom (system d) (start d) plan a plan'
  desk_found {book} ranks plan a ranks' plan' e size f = by_case (subst (λ (b : List ℕ). Finds b (question_in d) (goal_in d) ranks plan a ranks' plan') e f)
    where
      enough : 7 ^ d.rules.settings ≤ length ranks
      enough = omega (arith, pow-le-pow_right {n = 7} (lit< tt) {i = d.rules.settings} {j = 5} x.holds.few)

      by_case : Finds (book_in d) (question_in d) (goal_in d) ranks plan a ranks' plan'
          → AnswersFrom (system_of d.rules.settings (book_in d) (question_in d) (goal_in d)) (start_of (question_in d)) plan a plan'
      by_case (inl u) = first-clear u.first (find_clear desk_valid ranks enough)
      by_case (inr (n, m, v, l, r, s)) =
          subst (λ (k : ℕ). AnswersFrom (system_of k (book_in d) (question_in d) (goal_in d)) (start_of (question_in d)) plan a plan')
          (sound-one v.sound desk_valid.sound).0 s

  -- the finder refuses nothing
  pub never-refused : (plan : List ℕ) (r : Result Answer Refusal) (plan' : List ℕ) → AnswersFrom (system d) (start d) plan r plan' → length plan ≡ 2016 → IsOk r
  never-refused plan (Ok answer) plan' a size = refl
  never-refused plan (Err why) plan' a size = absurd (omega (arith, a.1.2, plan-most a.1.0 a.1.1))

  -- what it answered, once its case is known
  module _ (plan plan' : List ℕ) where
    module _ {height size : ℕ} (reached : AnswersFrom (system d) (start d) plan (Ok (Reach height size)) plan') where
      tree : Plan
      tree = reached.1.0

      plan-bytes : take size plan' ≡ encode tree
      unfolding tree
      plan-bytes = ap (take size) reached.1.4 ∙ take_at (encode tree) (drop size plan) size (sym reached.1.2)

      lettered : Lettered tree
      unfolding tree
      lettered =
          permitted-lettered desk_lawful few tree (start d) (works_permitted (system d) tree (start d) (written_works (system d) tree (start d) reached.1.1))

      pub plan-fits : size ≤ length plan'
      plan-fits = omega (arith, ap length reached.1.4, length-append (encode reached.1.0) (drop size plan), reached.1.2)

      -- the plan's bytes can be printed
      pub plan-readable : ((p : Plan) × (take size plan' ≡ encode p) × Lettered p) × (length (take size plan') ≤ 32640)
      unfolding tree
      plan-readable = ((tree, plan-bytes, lettered), omega (arith, ap length plan-bytes, plan-most tree reached.1.1))

      pub plan-told : (old : List ℕ) (x : ℕ) (new : List ℕ) → ((p : Plan) → take size plan' ≡ encode p → Lettered p → Prints old (reach_text height p) x new)
          → PrintsFound (system d) (start d) old x new
      unfolding tree
      plan-told old x new f = inl (height, tree, reached.0, reached.1.1, f tree plan-bytes lettered)

    pub cannot_told : (old : List ℕ) (x : ℕ) (new : List ℕ) → AnswersFrom (system d) (start d) plan (Ok Cannot) plan' → Prints old cannot_text x new
        → PrintsFound (system d) (start d) old x new
    cannot_told old x new a f = inr (a.0, f)
