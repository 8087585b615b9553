-- A sheet from what its two readers told: the rules first, and the question from the byte where they end. A sheet is short enough for both, and the size
-- of its rules is one that a question is read over.
use mathlib.Core.Path.{◌≡◌, refl, sym, ap, ap₂, ◌∙◌, subst}
use mathlib.Core.Bool.{Bool, false, cond}
use mathlib.Core.List.{List}
use Prim.Native.Nat.{ℕ, ◌-◌, ◌≤◌, ◌<◌}
use native.Mathlib.Omega.{arith}
use lib.ListN.{length, take, drop, length-drop}
use borrow.Author.Tests.{lt-ltb, le-ltb}
use Rattle.refusal.specs.declared.Refusal.{Refusal}
use Rattle.refusal.specs.declared.Refusal.TheVariants.{SheetLength}
use Rattle.sheet_words.specs.Words.{split, newline}
use Rattle.sheet_words.proofs.Pieces.{tail}
use Rattle.sheet_rules.specs.Reading.{rules_read, rules_of}
use Rattle.sheet_rules.specs.Reading.{refused as rules-refused}
use Rattle.sheet_rules.specs.declared.RulesRead.{RulesRead}
use Rattle.sheet_words.specs.declared.Fault.{Fault}
use Rattle.std.proofs.Common.{Ok, Err}
use Rattle.sheet_rules.proofs.ReadLaws.{from_first}
use Rattle.sheet_rules.proofs.Bounds.{Fits, TextGoes, rules_of_goes, lines_fit}
use Rattle.sheet_rules.proofs.MeaningLaws.{EndsAt}
use Rattle.sheet_question.specs.Desk.{AskedOnDesk}
use Rattle.sheet_question.specs.Question.{QuestionMeaning, asked, question_meaning}
use Rattle.sheet_question.specs.Question.{refused as question_refused}
use Rattle.sheet_question.specs.Reads.{within, ReadsQuestion}
use Rattle.sheet_question.specs.declared.desk.AskedDesk.{AskedDesk}
use Rattle.sheet_question.proofs.ReadLaws.{not-long, within_same}
use Rattle.sheet_reading.specs.Reading.{Meaning, refused, with_question, after_rules, sheet_meaning}
use Rattle.sheet_reading.specs.Reads.{ReadsSheet}

-- ---- what a sheet means

pub too_long : (s : List ℕ) → 32768 < length s → sheet_meaning s ≡ refused SheetLength 0
unfolding sheet_meaning
too_long s h = ap (λ (b : Bool). cond b (refused SheetLength 0) (after_rules (rules_read false 5 (split newline s)))) (lt-ltb 32768 (length s) h)

module _ (s : List ℕ) (h : length s ≤ 32768) where
  by_rules : sheet_meaning s ≡ after_rules (rules_of false 5 s)
  unfolding sheet_meaning rules_read
  by_rules =
      ap (λ (b : Bool). cond b (refused SheetLength 0) (after_rules (rules_read false 5 (split newline s)))) (le-ltb 32768 (length s) h)
      ∙ ap after_rules (sym (from_first false 5 s (omega arith)))

  pub rules-at-fault : {r : Refusal} {L : ℕ} → rules_of false 5 s ≡ rules-refused r L → sheet_meaning s ≡ refused r L
  rules-at-fault e = by_rules ∙ ap after_rules e

  module _ {read : RulesRead} (e : EndsAt s (rules_of false 5 s) read) where
    -- how far the rules go
    pub rules_fit : (read.lines ≤ length s) × (length s ≤ 65536) × Fits 5 e.rules.size
    rules_fit = lines_fit 5 s e.rules read.at read.lines (subst (TextGoes 5 s) e.reading (rules_of_goes false 5 s))

    -- the question after them, as its reader is asked
    abbrev question : QuestionMeaning
    question = question_meaning read.lines false (within 7 read.desk.settings) (within 8 read.desk.posts) (take (length s - read.at) (drop read.at s))

    nearest_settings : within 7 read.desk.settings ≡ e.rules.size.settings
    nearest_settings = within_same 7 read.desk.settings e.holds.settings_most e.holds.settings_least ∙ e.holds.settings

    nearest_posts : within 8 read.desk.posts ≡ e.rules.size.posts
    nearest_posts = within_same 8 read.desk.posts e.holds.posts_most e.holds.posts_least ∙ e.holds.posts

    by_question : sheet_meaning s ≡ with_question e.rules question
    by_question =
        let rest : List ℕ = drop read.at s in
        by_rules ∙ ap after_rules e.reading
        ∙ ap (with_question e.rules)
        (sym (ap (question_meaning read.lines false (within 7 read.desk.settings) (within 8 read.desk.posts)) (tail s read.at)
        ∙ ap₂ (λ (n m : ℕ). question_meaning read.lines false n m rest) nearest_settings nearest_posts
        ∙ not-long read.lines false e.rules.size.settings e.rules.size.posts rest (omega (arith, length-drop read.at s))))

    pub sheet-stated : (a : AskedDesk) → ReadsQuestion (within 7 read.desk.settings) question (Ok a) → ReadsSheet (sheet_meaning s) (Ok (record { rules = read.desk; asked = a }))
    sheet-stated a q = subst (λ (o : Meaning). ReadsSheet o (Ok (record { rules = read.desk; asked = a }))) (sym by_question) (by_meaning question q)
      where
        by_meaning : (o : QuestionMeaning) → ReadsQuestion (within 7 read.desk.settings) o (Ok a) → ReadsSheet (with_question e.rules o) (Ok (record { rules = read.desk; asked = a }))
        by_meaning (question_refused r line) k = absurd k
        by_meaning (asked b) k = record {
          rules = e.holds;
          asked = subst (λ (n : ℕ). AskedOnDesk n b a) (nearest_settings ∙ sym e.holds.settings) k;
          few = omega (arith, e.holds.settings, rules_fit.2.settings-taken);
        }

    pub question_at-fault : {f : Fault} → ReadsQuestion (within 7 read.desk.settings) question (Err f) → sheet_meaning s ≡ refused f.why f.line
    question_at-fault {f} q = by_question ∙ by_meaning question q
      where
        by_meaning : (o : QuestionMeaning) → ReadsQuestion (within 7 read.desk.settings) o (Err f) → with_question e.rules o ≡ refused f.why f.line
        by_meaning (question_refused r at) (g, k) = ap₂ refused (sym g) (sym k)
        by_meaning (asked b) k = absurd k

-- ---- what is read

pub refused-is : {o : Meaning} (f : Fault) → o ≡ refused f.why f.line → ReadsSheet o (Err f)
refused-is f e = rw e (refl, refl)
