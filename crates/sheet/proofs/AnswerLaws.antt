-- From what was read of a sheet to what is printed for it: one law for each return of `answer`, by the sheet's meaning.
use mathlib.Core.Path.{◌≡◌, refl, ap, ap₂, ◌∙◌, subst}
use mathlib.Core.List.{List}
use Prim.Native.Nat.{ℕ}
use Rattle.refusal.specs.Refusals.{number}
use Rattle.book.specs.Written.{book_of}
use Rattle.plan.specs.Plans.{System}
use Rattle.print_answer.specs.Printed.{refused_text, Prints}
use Rattle.question.specs.Question.{system_of, start_of}
use Rattle.std.proofs.Common.{Ok, Err}
use Rattle.sheet_words.specs.declared.Fault.{Fault}
use Rattle.sheet_reading.specs.declared.Desk.{Desk}
use Rattle.sheet_reading.specs.Reading.{Meaning, refused, stated, sheet_meaning}
use Rattle.sheet_reading.specs.Reads.{ReadsSheet}
use Rattle.sheet_reading.proofs.Taken.{stated-written}
use Rattle.sheet.specs.Answer.{PrintsFound, PrintsMeaning, AnswersSheet}
use Rattle.sheet.specs.Inner.{Whole, rights_in, book_in, question_in, goal_in}
use Rattle.sheet.proofs.DeskRights.{desk_question}

module _ (s : List ℕ) where
  -- a sheet that is stated is whole on the desk
  pub stated-whole : (d : Desk) → ReadsSheet (sheet_meaning s) (Ok d) → Whole d
  stated-whole d reads = by_meaning (sheet_meaning s) refl reads
    where
      by_meaning : (o : Meaning) → sheet_meaning s ≡ o → ReadsSheet o (Ok d) → Whole d
      by_meaning (refused x line) m h = absurd h
      by_meaning (stated sheet) m h = record { sheet = sheet; holds = h; well_formed = (stated-written s sheet m).0 }

  module _ (old : List ℕ) (r : ℕ) (new : List ℕ) where
    pub stated-answers : (d : Desk) → ReadsSheet (sheet_meaning s) (Ok d)
        → PrintsFound (system_of d.rules.settings (book_in d) (question_in d) (goal_in d)) (start_of (question_in d)) old r new → AnswersSheet s old r new
    unfolding book_in
    stated-answers d reads t = by_meaning (sheet_meaning s) refl reads
      where
        by_meaning : (o : Meaning) → sheet_meaning s ≡ o → ReadsSheet o (Ok d) → PrintsMeaning o old r new
        by_meaning (refused x line) m h = absurd h
        by_meaning (stated sheet) m h = (
          rights_in d,
          question_in d,
          goal_in d,
          desk_question h (stated-written s sheet m).0,
          subst (λ (S : System). PrintsFound S (start_of (question_in d)) old r new)
              (ap₂ (λ (n p : ℕ). system_of n (book_of n p (rights_in d)) (question_in d) (goal_in d)) h.rules.settings h.rules.posts) t,
        )

    pub refused-answers : (f : Fault) (x : ℕ) → ReadsSheet (sheet_meaning s) (Err f) → x ≡ number f.why → Prints old (refused_text x f.line) r new → AnswersSheet s old r new
    refused-answers f x reads e p = by_meaning (sheet_meaning s) reads
      where
        by_meaning : (o : Meaning) → ReadsSheet o (Err f) → PrintsMeaning o old r new
        by_meaning (refused y at) h =
            subst (λ (t : List ℕ). Prints old t r new) (ap₂ (λ (a b : ℕ). refused_text a b) (e ∙ ap number h.0) h.1) p
        by_meaning (stated sheet) h = absurd h
