-- One grammar: a sheet that is a text of rules followed by a text of a question is answered as the question is, put to the book that is made of the rules.
-- Said of what the contracts of `sheet::answer` (`AnswersSheet`), `sheet_book::make_book` (`MakesBook`) and `sheet_ask::ask` (`AsksBook`) allow.
use mathlib.Core.Path.{◌≡◌, sym, ap, ap₂, ◌∙◌, subst, subst₂}
use mathlib.Core.Logic.{inl, inr, ◌↔◌}
use mathlib.Core.Bool.{true, false}
use mathlib.Core.List.{List, [], ◌++◌}
use Prim.Native.Nat.{ℕ, ◌+◌, ◌^◌, ◌≤◌, ◌<◌}
use native.Mathlib.Omega.{arith}
use lib.Dec.{T}
use lib.ListN.{length, take, drop}
use lib.Seq.{take_at}
use Rattle.refusal.specs.declared.Refusal.{Refusal}
use Rattle.refusal.specs.declared.Refusal.TheVariants.{Malformed}
use Rattle.refusal.specs.Refusals.{number}
use Rattle.book.proofs.WriteLaws.{length_book}
use Rattle.book.proofs.RoundTrip.{written-sound}
use Rattle.knowledge.specs.Goal.{Goal}
use Rattle.question.specs.declared.Question.{Question}
use Rattle.print_answer.specs.Printed.{refused_text, Prints}
use Rattle.sheet_words.specs.Words.{first_piece, split, newline, none_passed}
use Rattle.sheet_rules.specs.Rules.{Rules}
use Rattle.sheet_rules.specs.Forms.{is_of_rules}
use Rattle.sheet_rules.specs.Reading.{up_to, size_from, rules_read, rules_of}
use Rattle.sheet_rules.specs.Meaning.{Meaning as RulesMeaning, rules_meaning}
use Rattle.sheet_rules.specs.Meaning.{refused as text-refused, stated as rules-stated}
use Rattle.sheet_rules.proofs.Bounds.{Fits}
use Rattle.sheet_rules.proofs.MeaningLaws.{MeaningGoes, meaning_goes}
use Rattle.sheet_question.specs.Asked.{Asked}
use Rattle.sheet_question.specs.Forms.{is_team}
use Rattle.sheet_question.specs.Question.{QuestionMeaning, asked, question_meaning}
use Rattle.sheet_question.specs.Question.{refused as question_refused}
use Rattle.sheet_legs.specs.Legs.{whole, cut_lines}
use Rattle.sheet_legs.proofs.CutLaws.{asked_no_then}
use Rattle.sheet_reading.specs.Sheet.{sheet_of}
use Rattle.sheet_reading.specs.Reading.{Meaning}
use Rattle.sheet_reading.specs.Grammar.{ended, size_text}
use Rattle.sheet_reading.proofs.Texts as Texts
use Rattle.sheet_reading.proofs.Texts.{ended_lines}
use Rattle.sheet.specs.Answer.{SheetAsks, PrintsMeaning, AnswersSheet}
use Rattle.sheet.proofs.Theorems.{answer_unique}
use Rattle.sheet_book.specs.Book.{RulesRights, rules_book, book_length, MakesOf, MakesBook}
use Rattle.std.specs.Prelude.{Result, Ok, Err}
use Rattle.sheet_words.specs.declared.Fault.{Fault}
use Rattle.sheet_book.proofs.Rights.{rights_writable}
use Rattle.sheet_ask.specs.Asks.{QuestionAsks, PrintsQuestion, AsksBook}
use Rattle.sheet_ask.proofs.Theorems.{ask_told}
use Rattle.sheet_plain.specs.Asks.{AsksPlainly, PrintsAs}
use Rattle.finder_plain.specs.declared.finding.PlainAnswer.{PlainAnswer}
use Rattle.sheet_plain.specs.declared.AskFault.{AskFault}
use Rattle.sheet_plain.proofs.Theorems.{both_same}
use Rattle.sheet_book.proofs.make_book.Reads as make-contract
use Rattle.sheet_ask.proofs.ask.Reads as ask-contract

-- what rules and question ask is what the sheet asks
both_ask : {rules : Rules} {a : Asked} {rights : List ℕ} {q : Question} {goal : Goal} → RulesRights rules rights → QuestionAsks rules.size.settings a q goal
    → SheetAsks (sheet_of rules a) rights q goal
both_ask r k = record {
  size = r.size;
  rules = r.tables;
  nobody = r.nobody;
  made = k.made;
  learnt = k.learnt;
  posts = k.posts;
  settings_known = k.settings_known;
  settings_true = k.settings_true;
  settings_held = k.settings_held;
}

-- a text of rules that is refused makes no book
refused_so : {w : Refusal} {L : ℕ} (room : List ℕ) (answer : Result ℕ Fault) (after : List ℕ) → MakesBook (text-refused w L) room answer after
    → answer ≡ Err (record { why = w; line = L })
refused_so room (Ok size) after x = absurd x
refused_so {w} {L} room (Err fault) after (f, g, h) = ap₂ (λ (r : Refusal) (l : ℕ). Err (record { why = r; line = l })) f g

-- an empty text of rules is 22 at line 1 to `book`; the sheet `[] ++ Q` is Q, whatever Q is
pub no_rules_book : (room : List ℕ) (answer : Result ℕ Fault) (after : List ℕ) → MakesBook (rules_meaning []) room answer after → answer ≡ Err (record { why = Malformed 1; line = 1 })
unfolding rules_meaning rules_of rules_read size_from split
no_rules_book room answer after b = refused_so room answer after b

pub no_rules-sheet : (Q old : List ℕ) (r : ℕ) (new : List ℕ) → AnswersSheet ([] ++ Q) old r new ↔ AnswersSheet Q old r new
no_rules-sheet Q old r new = (λ a. a, λ a. a)

-- R are rules and Q is a question, "both without `#` lines and empty lines", and "the sheet is not over its length"
module _ (R Q : List ℕ) (short : length (R ++ Q) ≤ 32768) (plain : T (none_passed (split newline R))) where
  -- ---- the rules are refused at line L: `book` refuses so, whatever the room
  module _ {w : Refusal} {L : ℕ} (e : rules_meaning R ≡ text-refused w L) where
    pub rules_refuse_book : (room : List ℕ) (answer : Result ℕ Fault) (after : List ℕ) → MakesBook (rules_meaning R) room answer after → answer ≡ Err (record { why = w; line = L })
    rules_refuse_book room answer after b = refused_so room answer after (subst (λ (o : RulesMeaning). MakesBook o room answer after) e b)

    -- the sheet refuses so too, where line L ends in byte 10. Left out is where a sheet reads on or has a bound of its own. A last line of R without byte
    -- 10 goes on in Q: R is `size 1 1` and an unended `write a 1 `, Q begins with `1`. A `team` line in R begins the question. 6 or 7 settings are 25
    -- to a sheet. An empty R: `no_rules_book`.
    module _ (ends : L < length (split newline R))
        -- R does not state 6 or 7 settings
        (few : (n m : ℕ) (rest : List ℕ) → n ≤ 7 → 1 ≤ m → m ≤ 8 → R ≡ ended (size_text n m) ++ rest → n ≤ 5)
        -- where the lines before L are rules and line L is none, it is no `team` line of their size
        (other : (rules : Rules) (left : List (List ℕ)) → rules_of true 7 R ≡ up_to rules L left → is_team rules.size.posts (first_piece left) ≡ false) where
      pub rules_refuse_sheet : (old : List ℕ) (r : ℕ) (new : List ℕ) → AnswersSheet (R ++ Q) old r new → Prints old (refused_text (number w) L) r new
      rules_refuse_sheet old r new a = subst (λ (o : Meaning). PrintsMeaning o old r new) (Texts.rules-refused_so R Q short plain ends few other e) a

  -- ---- the rules are whole, of at most 5 settings
  module _ {rules : Rules} (e : rules_meaning R ≡ rules-stated rules) (few : rules.size.settings ≤ 5) (without : T (none_passed (split newline Q))) where
    abbrev n : ℕ
    n = rules.size.settings

    abbrev m : ℕ
    m = rules.size.posts

    -- a book is made of the rules, and the question is put to it
    module _ (room : List ℕ) (size : ℕ) (after : List ℕ) (made : MakesBook (rules_meaning R) room (Ok size) after)
        (ranks out : List ℕ) (r : ℕ) (ranks' out' : List ℕ) (asks : AsksBook (take size after) Q ranks out r ranks' out') where
      made_of : MakesOf rules room (Ok size) after
      made_of = subst (λ (o : RulesMeaning). MakesBook o room (Ok size) after) e made

      rights : List ℕ
      rights = made_of.2.0

      of_rules : RulesRights rules rights
      unfolding rights
      of_rules = made_of.2.1

      fits : Fits 7 rules.size
      fits = subst MeaningGoes e (meaning_goes R)

      the_book : take size after ≡ rules_book rules rights
      unfolding rights
      the_book =
          ap (λ (t : List ℕ). take size t) made_of.2.2
          ∙ take_at (rules_book rules rights) (drop (book_length rules) room) size (length_book n m rights of_rules.size ∙ sym made_of.0)

      -- of a question of one leg: one without a line `then`
      told : cut_lines (split newline Q) ≡ whole → PrintsQuestion n (rules_book rules rights) (question_meaning 0 true n m Q) ranks out r ranks' out'
      told alone =
          ask_told (written-sound (rights_writable fits of_rules)) Q ranks out r ranks' out' (subst (λ (b : List ℕ). AsksBook b Q ranks out r ranks' out') the_book asks) alone

      -- the question asks something: "`answer` prints what `ask` prints of the book that `book` makes", where the rank table is long enough
      module _ {a : Asked} (is : question_meaning 0 true n m Q ≡ asked a) (enough : 7 ^ n ≤ length ranks) where
        ask_answers : AnswersSheet (R ++ Q) out r out'
        ask_answers =
            let (q, goal, k, printed) = subst (λ (o : QuestionMeaning). PrintsQuestion n (rules_book rules rights) o ranks out r ranks' out') is (told (asked_no_then n m Q is)) in
            subst (λ (o : Meaning). PrintsMeaning o out r out') (sym (Texts.texts_stated R Q short plain e few without is))
            (elim printed [
              | inl (less, x) ↦ absurd (omega (arith, less, enough))
              | inr (fit, filled, found) ↦ (rights, q, goal, both_ask of_rules k, found)
            ])

        pub answer-is_ask : (s : ℕ) (new : List ℕ) → AnswersSheet (R ++ Q) out s new → (s ≡ r) × (new ≡ out')
        answer-is_ask s new x = answer_unique (R ++ Q) out s r new out' x ask_answers

        -- and what the second finder says of the question is what the sheet's answer says: the two of `both SHEET` are never apart
        pub sheet_both : 823543 ≤ length ranks → (x : Result PlainAnswer AskFault) → AsksPlainly (take size after) Q x → (s : ℕ) (new : List ℕ) → AnswersSheet (R ++ Q) out s new
            → PrintsAs x out s new
        sheet_both all x said s new printed =
            let same = answer-is_ask s new printed in
            subst₂ (λ (i : ℕ) (o : List ℕ). PrintsAs x out i o) (sym same.0) (sym same.1) (both_same ranks out r ranks' out' all (take size after) Q x (asked_no_then n m Q is) said asks)

      -- the question is refused: "the sheet is refused with the same number, the question's line counted on from the rules' lines"; the first line of the
      -- question, where it ends in byte 10, is none of the rules': after `size 1 1` a `read` line first in Q is 22 to `ask`, and a rule of the sheet
      module _ {w : Refusal} {L : ℕ} (is : question_meaning 0 true n m Q ≡ question_refused w L) where
        pub question_refuse_ask : cut_lines (split newline Q) ≡ whole → Prints out (refused_text (number w) L) r out'
        question_refuse_ask alone = (subst (λ (o : QuestionMeaning). PrintsQuestion n (rules_book rules rights) o ranks out r ranks' out') is (told alone)).printed

        pub question_refuse_sheet : (1 < length (split newline Q) → is_of_rules false n m (first_piece (split newline Q)) ≡ false)
            → (old : List ℕ) (s : ℕ) (new : List ℕ) → AnswersSheet (R ++ Q) old s new → Prints old (refused_text (number w) (ended_lines R + L)) s new
        question_refuse_sheet first old s new x =
            let z = Texts.texts_refused R Q short plain e few without first is in
            subst (λ (c : ℕ). Prints old (refused_text c (ended_lines R + L)) s new) z.2 (subst (λ (o : Meaning). PrintsMeaning o old s new) z.1 x)

-- ---- the contracts named here are those of the functions

pub tied_make_book : (κs : _) (a : _) (x : _) (s : _) → make-contract.Post κs a x s ↔ MakesBook (rules_meaning a.0.now) a.1.0.now x s.1.0.now
tied_make_book κs a x s = (λ p. p, λ p. p)

pub tied_ask : (κs : _) (a : _) (x : _) (s : _) → ask-contract.Post κs a x s
    ↔ AsksBook a.0.now a.1.0.now a.1.1.0.now a.1.1.1.0.now x s.1.1.0.now s.1.1.1.0.now
tied_ask κs a x s = (λ p. p, λ p. p)
