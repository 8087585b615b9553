-- Question texts with a line `then` computed: a shift change, and the refusals that are easy to get wrong. Each holds by computing the meaning.
use mathlib.Core.Path.{◌≡◌, refl}
use mathlib.Core.List.{[], ◌∷◌}
use mathlib.Core.Bool.{false}
use Rattle.ground.specs.Text.{bytes}
use Rattle.refusal.specs.declared.Refusal.TheVariants.{LetterPast, Malformed, Twice}
use Rattle.formula_grammar.specs.Signs.{is_letter, is_sign, is_stray, is_past}
use Rattle.formula_grammar.specs.Automaton.{is_atom, step, verdict}
use Rattle.formula.specs.Computed.{sentence_answer, foreign_answer, formula_answer}
use Rattle.sheet_words.specs.Words.{onto, split, begins, passed_over, among, is_false, bare, is_name, all_names, index_of, indexes, twice}
use Rattle.sheet_words.specs.Steps.{unless_refused}
use Rattle.sheet_question.specs.Asked.{left_out, holding, known_settings}
use Rattle.sheet_question.specs.Forms.{name_words, is_names, is_team, team_of, is_known, known_by, known_of, is_held, held_of}
use Rattle.sheet_question.specs.LineSteps.{with_team, with_known, with_held, with_make, with_ask, team_step, known_step, held_step, make_step, ask_step}
use Rattle.sheet_question.specs.LineSteps.{held_or_make, line_step}
use Rattle.sheet_question.specs.Question.{asked_from}
use Rattle.sheet_question.specs.Second.{second_from}
use Rattle.sheet_legs.specs.Legs.{is_then, cut_lines, refused_at, one, two, legs_meaning}

pub legs_computed :
    -- a shift change: "Held settings are the same for both legs", so the second leg names neither known nor held ones
    (legs_meaning 3 2 (bytes "team 1\nknown ~a\nheld c\nmake b\nask a\nthen\nteam 2\nmake c\nask b\n") ≡ two
    (record { team = 0 ∷ []; known = record { setting = 0; value = false } ∷ []; held = holding (2 ∷ []); make = bytes "b"; asks = bytes "a" ∷ [] })
    (record { team = 1 ∷ []; known = []; held = left_out; make = bytes "c"; asks = bytes "b" ∷ [] }))
    -- lines that are passed over, in both legs and around `then`
    × (legs_meaning 1 1 (bytes "# day\nteam 1\nknown\nmake a\n\n# change\nthen\n\n# night\nteam 1\n#\nmake ~a\n\n") ≡ two
    (record { team = 0 ∷ []; known = []; held = left_out; make = bytes "a"; asks = [] })
    (record { team = 0 ∷ []; known = []; held = left_out; make = bytes "~a"; asks = [] }))
    -- a text without `then` has one leg
    × (legs_meaning 1 1 (bytes "team 1\nknown\nmake a\n") ≡ one (record { team = 0 ∷ []; known = []; held = left_out; make = bytes "a"; asks = [] }))
    -- `then` where the first leg is not whole is 22 at that line, wherever it comes too early
    × (legs_meaning 1 1 (bytes "then\nteam 1\nmake a\n") ≡ refused_at (Malformed 1) 1)
    × (legs_meaning 1 1 (bytes "team 1\nthen\nteam 1\nmake a\n") ≡ refused_at (Malformed 2) 2)
    × (legs_meaning 1 1 (bytes "team 1\nknown\n#\nthen\nteam 1\nmake a\n") ≡ refused_at (Malformed 4) 4)
    -- "`known` or `held` there is 22"
    × (legs_meaning 1 1 (bytes "team 1\nknown\nmake a\nthen\nteam 1\nknown\nmake a\n") ≡ refused_at (Malformed 6) 6)
    × (legs_meaning 1 1 (bytes "team 1\nknown\nmake a\nthen\nteam 1\nheld a\nmake a\n") ≡ refused_at (Malformed 6) 6)
    × (legs_meaning 1 1 (bytes "team 1\nknown\nmake a\nthen\nteam 1\nmake a\nheld a\n") ≡ refused_at (Malformed 7) 7)
    -- a second `then` is 22
    × (legs_meaning 1 1 (bytes "team 1\nknown\nmake a\nthen\nteam 1\nmake a\nthen\nteam 1\nmake a\n") ≡ refused_at (Malformed 7) 7)
    × (legs_meaning 1 1 (bytes "team 1\nknown\nmake a\nthen\nthen\n") ≡ refused_at (Malformed 5) 5)
    -- exactly these four bytes, ended by a byte 10
    × (legs_meaning 1 1 (bytes "team 1\nknown\nmake a\nthen") ≡ refused_at (Malformed 4) 4)
    × (legs_meaning 1 1 (bytes "team 1\nknown\nmake a\nthen \nteam 1\nmake a\n") ≡ refused_at (Malformed 4) 4)
    × (legs_meaning 1 1 (bytes "team 1\nknown\nmake a\nThen\nteam 1\nmake a\n") ≡ refused_at (Malformed 4) 4)
    -- a text that ends after `then` without a whole second leg is 22 at the line where it ends
    × (legs_meaning 1 1 (bytes "team 1\nknown\nmake a\nthen\n") ≡ refused_at (Malformed 5) 5)
    × (legs_meaning 1 1 (bytes "team 1\nknown\nmake a\nthen\n#\nteam 1\n") ≡ refused_at (Malformed 7) 7)
    × (legs_meaning 1 1 (bytes "team 1\nknown\nmake a\nthen\nteam 1\nmake a") ≡ refused_at (Malformed 6) 6)
    -- the second leg's lines are counted on, and judged as the first's
    × (legs_meaning 1 2 (bytes "team 1\nknown\nmake a\nthen\n\nteam 2 2\nmake a\n") ≡ refused_at (Twice 6) 6)
    × (legs_meaning 1 2 (bytes "team 1\nknown\nmake a\nthen\nteam 3\nmake a\n") ≡ refused_at (Malformed 5) 5)
    × (legs_meaning 1 1 (bytes "team 1\nknown\nmake a\nthen\nteam 1\nmake b\n") ≡ refused_at (LetterPast 0) 6)
    × (legs_meaning 1 1 (bytes "team 1\nknown\nmake a\nthen\nteam 1\nmake 1\nask a\nask a\nask a\nask a\nask a\n") ≡ refused_at (Malformed 11) 11)
    -- the first leg's refusal comes first
    × (legs_meaning 1 1 (bytes "team 1\nknown\nmake b\nthen\nteam 2\n") ≡ refused_at (LetterPast 0) 3)
unfolding is_letter is_sign is_stray is_past is_atom step verdict sentence_answer foreign_answer formula_answer known_settings onto split begins passed_over
    among is_false bare is_name all_names index_of indexes name_words is_names is_team team_of is_known known_by known_of is_held held_of twice unless_refused with_team
    with_known with_held with_make with_ask team_step known_step held_step make_step ask_step held_or_make line_step asked_from second_from is_then cut_lines legs_meaning
legs_computed = (refl, refl, refl, refl, refl, refl, refl, refl, refl, refl, refl, refl, refl, refl, refl, refl, refl, refl, refl, refl, refl, refl)
