-- Each row is decided by a test that the checker computes from the row alone: a row that holds passes, whatever it says, and one that does not fails.
use mathlib.Core.Path.{◌≡◌, ap, ◌∙◌}
use mathlib.Core.List.{List, [], ◌∷◌}
use mathlib.Core.Bool.{Bool, true, false, ◌&&◌}
use Prim.Native.Nat.{ℕ}
use lib.Dec.{T, eqb, ltb, leb, eqb→eq, leb→le}
use lib.ListN.{length, drop}
use Rattle.ground.specs.Text.{bytes}
use Rattle.ground.proofs.Bools.{and_left, and_right}
use Rattle.refusal.specs.Refusals.{number}
use Rattle.book_block.specs.Check.{check as checkOf, sums_after, added}
use Rattle.book_block.specs.declared.sums.Sums.{Sums}
use Rattle.formula_grammar.specs.Signs.{is_letter, is_sign, is_stray, is_past}
use Rattle.formula_grammar.specs.Automaton.{is_atom, step, verdict}
use Rattle.formula.specs.Computed.{sentence_answer, foreign_answer, formula_answer}
use Rattle.knowledge_acts.specs.Acts.{act_of, byte_of}
use Rattle.plan.specs.Bytes.{encode}
use Rattle.plan.specs.Check.{check}
use Rattle.print_room.specs.Decimal.{decimal}
use Rattle.print_answer.specs.Printed.{refused_text, reach_text, cannot_text, fitted}
use Rattle.sheet_words.specs.Words.{onto, split, begins, among, is_false, bare, is_name, all_names, index_of, indexes, twice}
use Rattle.sheet_words.specs.Steps.{unless_refused}
use Rattle.sheet_rules.specs.Rules.{same_right, concerns, is_stated, with_rule}
use Rattle.sheet_rules.specs.Forms.{is_setting, is_post, is_rule, rule_of, is_of_rules, is_size, digit_at}
use Rattle.sheet_rules.specs.Steps.{size_step, rule_step}
use Rattle.sheet_rules.specs.Steps.{line_step as rulesLine}
use Rattle.sheet_rules.specs.Reading.{rules_from, size_from, rules_read}
use Rattle.sheet_question.specs.Asked.{known_settings}
use Rattle.sheet_question.specs.Forms.{name_words, is_names, is_team, team_of, is_known, known_by, known_of, is_held, held_of}
use Rattle.sheet_question.specs.LineSteps.{with_team, with_known, with_held, with_make, with_ask, team_step, known_step, held_step, make_step, ask_step, held_or_make, line_step}
use Rattle.sheet_question.specs.Question.{asked_from}
use Rattle.sheet_reading.specs.Sheet.{Sheet}
use Rattle.sheet_reading.specs.Reading.{Meaning, refused, stated, sheet_meaning}
use Rattle.marked.specs.Row.{Row, reads, refuses, sums, reaches, faults, prints, sheet_reaches, sheet_cannot, RowHolds, Of, Reaches, NoneReaches}
use Rattle.marked.proofs.Tests.{every, pick, same, same_out}
use Rattle.marked.proofs.FormulaRows.{reads_so, row_reads, refuses_so, row-refuses}
use Rattle.marked.proofs.Formed.{formed, well_formed}
use Rattle.marked.proofs.Asked.{asks_so, asks}
use Rattle.marked.proofs.Search.{Certificate}
use Rattle.marked.proofs.Found.{system_in, start_in, search_in, shows, catches}
use Rattle.marked.proofs.QuestionRows.{reached, unreached, fault_so, judged}
use Rattle.marked.proofs.SheetRows.{Says, printed, reach_says, cannot_says}

-- ---- the tests

abbrev two : Sums → ℕ → ℕ → Bool
two c s t = eqb c.s s && eqb c.t t

-- the search's height and plan are right, and are those of the row
abbrev reach_tests : Sheet → Certificate → ℕ → List ℕ → List Bool
reach_tests s c h plan = formed s ∷ shows s c ∷ eqb c.height h ∷ same (encode c.plan) plan ∷ []

abbrev fault_tests : Sheet → List ℕ → ℕ → ℕ → List Bool
fault_tests s plan x p = formed s ∷ asks_so s ∷ leb (length plan) 32640 ∷ fault_so (check (system_in s) (start_in s) plan) x p ∷ []

-- what is printed
abbrev reach_lines : Sheet → Certificate → List ℕ → List Bool
reach_lines s c text = formed s ∷ shows s c ∷ same text (reach_text c.height c.plan) ∷ []

abbrev cannot_lines : Sheet → Certificate → List ℕ → List Bool
cannot_lines s c text = formed s ∷ catches s c.none ∷ same text cannot_text ∷ []

abbrev lines_of : Bool → Sheet → Certificate → List ℕ → List Bool
lines_of true s c text = reach_lines s c text
lines_of false s c text = cannot_lines s c text

abbrev print_test : Meaning → List ℕ → Bool
print_test (refused why line) text = same text (refused_text (number why) line)
print_test (stated s) text = let c = search_in s in every (lines_of (ltb c.height 255) s c text)

-- the question and what is printed, at once
abbrev both_tests : Sheet → Certificate → ℕ → List ℕ → List ℕ → List Bool
both_tests s c h plan text = same text (reach_text c.height c.plan) ∷ reach_tests s c h plan

abbrev both_test : Meaning → ℕ → List ℕ → List ℕ → Bool
both_test (refused why line) h plan text = false
both_test (stated s) h plan text = every (both_tests s (search_in s) h plan text)

abbrev cannot_test : Meaning → List ℕ → Bool
cannot_test (refused why line) text = false
cannot_test (stated s) text = every (cannot_lines s (search_in s) text)

-- (who names it on an `unfolding` line unfolds all that a row says, so that the test computes)
unfoldable pub decided : Row → Bool
unfolding every same reads_so refuses_so formed asks_so search_in shows catches byte_of act_of decimal checkOf sums_after added
    is_letter is_sign is_stray is_past is_atom step verdict sentence_answer foreign_answer formula_answer same_right concerns is_stated
    known_settings onto split begins among is_setting is_post is_size digit_at is_rule rule_of is_false bare is_name all_names index_of indexes
    name_words is_names is_team team_of is_known known_by known_of is_held held_of twice unless_refused is_of_rules with_rule size_step rule_step rulesLine rules_from size_from
    rules_read with_team with_known with_held with_make with_ask team_step known_step held_step make_step ask_step held_or_make line_step asked_from sheet_meaning
decided (reads n s byte) = reads_so n s byte
decided (refuses n s x p) = refuses_so n s x p
decided (sums block s t) = two (checkOf (drop 0 block)) s t
decided (reaches s h plan) = every (reach_tests s (search_in s) h plan)
decided (faults s plan x p) = every (fault_tests s plan x p)
decided (prints s t) = print_test (sheet_meaning (bytes s)) (bytes t)
decided (sheet_reaches s h plan t) = both_test (sheet_meaning (bytes s)) h plan (bytes t)
decided (sheet_cannot s t) = cannot_test (sheet_meaning (bytes s)) (bytes t)

-- ---- what they give

sums_hold : (r c : Sums) (s t : ℕ) → r ≡ c → T (two c s t) → (r.s ≡ s) × (r.t ≡ t)
sums_hold r c s t e h = (
  ap (λ (y : Sums). y.s) e ∙ eqb→eq c.s s (and_left (eqb c.s s) (eqb c.t t) h),
  ap (λ (y : Sums). y.t) e ∙ eqb→eq c.t t (and_right (eqb c.s s) (eqb c.t t) h),
)

reach_holds : (s : Sheet) (c : Certificate) (h : ℕ) (plan : List ℕ) → T (every (reach_tests s c h plan)) → Of (stated s) (Reaches h plan)
reach_holds s c h plan x =
    let t = reach_tests s c h plan in
    reached s (well_formed s (pick t 0 x)) c (pick t 1 x) h plan (eqb→eq c.height h (pick t 2 x)) (same_out (encode c.plan) plan (pick t 3 x))

lines_hold : (b : Bool) (s : Sheet) (c : Certificate) (text : List ℕ) → T (every (lines_of b s c text)) → Says (stated s) text
lines_hold true s c text x =
    let t = reach_lines s c text in
    reach_says s (well_formed s (pick t 0 x)) c (pick t 1 x) text (same_out text (reach_text c.height c.plan) (pick t 2 x))
lines_hold false s c text x =
    let t = cannot_lines s c text in
    cannot_says s (well_formed s (pick t 0 x)) c.none (pick t 1 x) text (same_out text cannot_text (pick t 2 x))

print_holds : (o : Meaning) (text : List ℕ) → T (print_test o text) → Says o text
print_holds (refused why line) text x old =
    let e : text ≡ refused_text (number why) line = same_out text (refused_text (number why) line) x in
    record { count = ap length e; room = ap (fitted old) e }
print_holds (stated s) text x old = let c = search_in s in lines_hold (ltb c.height 255) s c text x old

both_hold : (o : Meaning) (h : ℕ) (plan text : List ℕ) → T (both_test o h plan text) → Of o (Reaches h plan) × Says o text
both_hold (refused why line) h plan text x = absurd x
both_hold (stated s) h plan text x =
    let c = search_in s in
    let t = both_tests s c h plan text in (
      reached s (well_formed s (pick t 1 x)) c (pick t 2 x) h plan (eqb→eq c.height h (pick t 3 x)) (same_out (encode c.plan) plan (pick t 4 x)),
      reach_says s (well_formed s (pick t 1 x)) c (pick t 2 x) text (same_out text (reach_text c.height c.plan) (pick t 0 x)),
    )

cannot_hold : (o : Meaning) (text : List ℕ) → T (cannot_test o text) → Of o NoneReaches × Says o text
cannot_hold (refused why line) text x = absurd x
cannot_hold (stated s) text x =
    let c = search_in s in
    let t = cannot_lines s c text in (unreached s (well_formed s (pick t 0 x)) c.none (pick t 1 x), lines_hold false s c text x)

pub holds : (r : Row) → T (decided r) → RowHolds r
unfolding decided
holds (reads n s byte) x = row_reads n s byte x
holds (refuses n s a p) x = row-refuses n s a p x
holds (sums block s t) x = λ r e. sums_hold r (checkOf (drop 0 block)) s t e x
holds (reaches s h plan) x = reach_holds s (search_in s) h plan x
holds (faults s plan a p) x =
    let t = fault_tests s plan a p in
    judged s (well_formed s (pick t 0 x)) (asks s (pick t 1 x)) plan (leb→le (length plan) 32640 (pick t 2 x)) a p (pick t 3 x)
holds (prints s t) x = printed (bytes s) (bytes t) (print_holds (sheet_meaning (bytes s)) (bytes t) x)
holds (sheet_reaches s h plan t) x =
    let y = both_hold (sheet_meaning (bytes s)) h plan (bytes t) x in (y.0, printed (bytes s) (bytes t) y.1)
holds (sheet_cannot s t) x =
    let y = cannot_hold (sheet_meaning (bytes s)) (bytes t) x in (y.0, printed (bytes s) (bytes t) y.1)
