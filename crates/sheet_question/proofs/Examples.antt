-- Questions computed: one with lines that are passed over, and the refusals that are easy to get wrong. Each holds by computing the meaning.
use mathlib.Core.Path.{◌≡◌, refl}
use mathlib.Core.List.{[], ◌∷◌}
use mathlib.Core.Bool.{true, false}
use Rattle.ground.specs.Text.{bytes}
use Rattle.refusal.specs.declared.Refusal.TheVariants.{StrayByte, LetterPast, Malformed, Twice}
use Rattle.formula_grammar.specs.Signs.{is_letter, is_sign, is_stray, is_past}
use Rattle.formula_grammar.specs.Automaton.{is_atom, step, verdict}
use Rattle.formula.specs.Computed.{sentence_answer, foreign_answer, formula_answer}
use Rattle.sheet_words.specs.Words.{onto, split, begins, passed_over, among, is_false, bare, is_name, all_names, index_of, indexes, twice}
use Rattle.sheet_words.specs.Steps.{unless_refused}
use Rattle.sheet_question.specs.Asked.{left_out, holding, known_settings, held_settings}
use Rattle.sheet_question.specs.Forms.{name_words, is_names, is_team, team_of, is_known, known_by, known_of, is_held, held_of}
use Rattle.sheet_question.specs.LineSteps.{with_team, with_known, with_held, with_make, with_ask, team_step, known_step, held_step, make_step, ask_step}
use Rattle.sheet_question.specs.LineSteps.{held_or_make, line_step}
use Rattle.sheet_question.specs.Question.{refused, asked, asked_from, question_meaning}

pub questions_computed :
    -- lines that are passed over
    (question_meaning 0 true 3 2 (bytes "# who\n\nteam 1 2\nknown ~a c\n#\nmake b\nask a\n# end\n") ≡ asked (record {
      team = 0 ∷ 1 ∷ [];
      known = record { setting = 0; value = false } ∷ record { setting = 2; value = true } ∷ [];
      held = left_out;
      make = bytes "b";
      asks = bytes "a" ∷ [];
    }))
    -- "`held`, a line like `known` without `~`, directly after it"; a setting may be both known and held
    × (question_meaning 0 true 3 2 (bytes "team 1\nknown ~a\n# keys\nheld c a\nmake b\n") ≡ asked (record {
      team = 0 ∷ [];
      known = record { setting = 0; value = false } ∷ [];
      held = holding (2 ∷ 0 ∷ []);
      make = bytes "b";
      asks = [];
    }))
    -- "`held` alone is allowed and holds nothing"
    × (question_meaning 0 true 1 1 (bytes "team 1\nknown\nheld\nmake a\n") ≡ asked (record { team = 0 ∷ []; known = []; held = holding []; make = bytes "a"; asks = [] }))
    -- what is held is what the line names, and without a line nothing
    × (held_settings (holding (2 ∷ 0 ∷ [])) ≡ 2 ∷ 0 ∷ [])
    × (held_settings left_out ≡ [])
    -- "a `~`, a letter past the size, a second `held` line or one elsewhere is 22; a setting named twice 23"
    × (question_meaning 0 true 1 1 (bytes "team 1\nknown\nheld ~a\nmake a\n") ≡ refused (Malformed 3) 3)
    × (question_meaning 0 true 1 1 (bytes "team 1\nknown\nheld b\nmake a\n") ≡ refused (Malformed 3) 3)
    × (question_meaning 0 true 1 1 (bytes "team 1\nknown\nheld \nmake a\n") ≡ refused (Malformed 3) 3)
    × (question_meaning 0 true 1 1 (bytes "team 1\nknown\nholds a\nmake a\n") ≡ refused (Malformed 3) 3)
    × (question_meaning 0 true 1 1 (bytes "team 1\nknown\nheld\nheld\nmake a\n") ≡ refused (Malformed 4) 4)
    × (question_meaning 0 true 1 1 (bytes "team 1\nheld a\nknown\nmake a\n") ≡ refused (Malformed 2) 2)
    × (question_meaning 0 true 1 1 (bytes "team 1\nknown\nmake a\nheld a\n") ≡ refused (Malformed 4) 4)
    × (question_meaning 0 true 2 1 (bytes "team 1\nknown\nheld b b\nmake a\n") ≡ refused (Twice 3) 3)
    -- "line numbers count them", and are counted on from the lines before
    × (question_meaning 0 true 3 2 (bytes "# who\n\nteam 1 3\n") ≡ refused (Malformed 3) 3)
    × (question_meaning 5 true 3 2 (bytes "# who\n\nteam 1 1\n") ≡ refused (Twice 8) 8)
    -- "A last line without byte 10 is 22 at that line, a `#` line too"
    × (question_meaning 0 true 1 1 (bytes "team 1\nknown\nmake a\n# end") ≡ refused (Malformed 4) 4)
    × (question_meaning 0 true 1 1 (bytes "team 1\nknown\nmake a\n#") ≡ refused (Malformed 4) 4)
    -- "A text that ends early gets 22 one past its last line, passed-over lines counted"
    × (question_meaning 0 true 1 1 (bytes "") ≡ refused (Malformed 1) 1)
    × (question_meaning 0 true 1 1 (bytes "team 1\nknown\n\n#\n") ≡ refused (Malformed 5) 5)
    -- "A line of one space, or of a carriage return, is not empty"
    × (question_meaning 0 true 1 1 (bytes " \nteam 1\n") ≡ refused (Malformed 1) 1)
    × (question_meaning 0 true 1 1 (13 ∷ bytes "\nteam 1\n") ≡ refused (Malformed 1) 1)
    -- where lines are not passed over, such a line is 22
    × (question_meaning 0 false 1 1 (bytes "# who\nteam 1\nknown\nmake a\n") ≡ refused (Malformed 1) 1)
    × (question_meaning 0 false 1 1 (bytes "team 1\n\nknown\nmake a\n") ≡ refused (Malformed 2) 2)
    -- "a `size`, `read` or `write` line in a question [..] is 22"
    × (question_meaning 0 true 1 1 (bytes "size 1 1\nteam 1\n") ≡ refused (Malformed 1) 1)
    × (question_meaning 0 true 1 1 (bytes "read a 1 1\nteam 1\n") ≡ refused (Malformed 1) 1)
    × (question_meaning 0 true 1 1 (bytes "write a 1 1\nteam 1\n") ≡ refused (Malformed 1) 1)
    -- a formula's refusal stands at its line; letters are judged by the size
    × (question_meaning 0 true 1 1 (bytes "team 1\nknown\nmake b\n") ≡ refused (LetterPast 0) 3)
    × (question_meaning 0 true 1 1 (bytes "team 1\nknown\n#\nmake a#\n") ≡ refused (StrayByte 1) 4)
    -- "up to four `ask F`"
    × (question_meaning 0 true 1 1 (bytes "team 1\nknown\nmake 1\nask a\nask a\n#\nask a\nask a\nask a\n") ≡ refused (Malformed 9) 9)
unfolding is_letter is_sign is_stray is_past is_atom step verdict sentence_answer foreign_answer formula_answer known_settings onto split begins passed_over
    among is_false bare is_name all_names index_of indexes name_words is_names is_team team_of is_known known_by known_of is_held held_of twice unless_refused with_team
    with_known with_held with_make with_ask team_step known_step held_step make_step ask_step held_or_make line_step asked_from question_meaning
questions_computed = (refl, refl, refl, refl, refl, refl, refl, refl, refl, refl, refl, refl, refl, refl, refl, refl, refl, refl, refl, refl, refl, refl, refl, refl, refl, refl, refl, refl, refl)
