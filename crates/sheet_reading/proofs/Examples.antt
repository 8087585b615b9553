-- Sheets computed: paper 01's own, and the refusals that are easy to get wrong. Each holds by computing the meaning.
use mathlib.Core.Path.{◌≡◌, refl}
use mathlib.Core.List.{[], ◌∷◌}
use mathlib.Core.Bool.{true, false}
use Rattle.ground.specs.Text.{bytes}
use Rattle.refusal.specs.declared.Refusal.TheVariants.{FormulaLength, StrayByte, NotSentence, Malformed, Twice, SheetSettings}
use Rattle.formula_grammar.specs.Signs.{is_letter, is_sign, is_stray, is_past}
use Rattle.formula_grammar.specs.Automaton.{is_atom, step, verdict}
use Rattle.formula.specs.Computed.{sentence_answer, foreign_answer, formula_answer}
use Rattle.book_block.specs.declared.rule.Right.TheVariants.{Look, Set}
use Rattle.sheet_words.specs.Words.{onto, split, begins, among, is_false, bare, is_name, all_names, index_of, indexes, twice}
use Rattle.sheet_words.specs.Steps.{unless_refused}
use Rattle.sheet_rules.specs.Rules.{size_of, same_right, concerns, is_stated, with_rule}
use Rattle.sheet_rules.specs.Forms.{is_setting, is_post, is_rule, rule_of, is_of_rules, is_size, digit_at}
use Rattle.sheet_rules.specs.Steps.{size_step, rule_step}
use Rattle.sheet_rules.specs.Steps.{line_step as rulesLine}
use Rattle.sheet_rules.specs.Reading.{rules_from, size_from, rules_read}
use Rattle.sheet_question.specs.Asked.{left_out, holding, known_settings}
use Rattle.sheet_question.specs.Forms.{name_words, is_names, is_team, team_of, is_known, known_by, known_of, is_held, held_of}
use Rattle.sheet_question.specs.LineSteps.{with_team, with_known, with_held, with_make, with_ask, team_step, known_step, held_step, make_step, ask_step}
use Rattle.sheet_question.specs.LineSteps.{held_or_make, line_step}
use Rattle.sheet_question.specs.Question.{asked_from}
use Rattle.sheet_reading.specs.Reading.{refused, stated, sheet_meaning}

pub sheets_computed :
    -- "Input: ..", paper 01's sheet
    (sheet_meaning (bytes "size 3 2\nwrite a 2 ~c\nwrite b 1 a\nread c 2 1\nwrite c 2 c\nteam 1 2\nknown\nmake b\n") ≡ stated (record {
      size = size_of 3 2;
      rules =
          record { right = Set; setting = 0; post = 1; text = bytes "~c" } ∷ record { right = Set; setting = 1; post = 0; text = bytes "a" }
          ∷ record { right = Look; setting = 2; post = 1; text = bytes "1" } ∷ record { right = Set; setting = 2; post = 1; text = bytes "c" }
          ∷ [];
      asked = record { team = 0 ∷ 1 ∷ []; known = []; held = left_out; make = bytes "b"; asks = [] };
    }))
    -- "A sheet that ends early gets 22 one past its last line."
    × (sheet_meaning (bytes "") ≡ refused (Malformed 1) 1)
    × (sheet_meaning (bytes "size 1 1\nteam 1\nknown\n") ≡ refused (Malformed 4) 4)
    -- "25 directly after line 1", and 22 before it
    × (sheet_meaning (bytes "size 6 2\n") ≡ refused SheetSettings 1)
    × (sheet_meaning (bytes "size 6 9\n") ≡ refused (Malformed 1) 1)
    -- a digit past the size is 22, though the line also names a post twice
    × (sheet_meaning (bytes "size 1 2\nteam 1 1 9\n") ≡ refused (Malformed 2) 2)
    × (sheet_meaning (bytes "size 1 2\nteam 1 1\n") ≡ refused (Twice 2) 2)
    -- 23 before the formula's refusal, beside which the line stands
    × (sheet_meaning (bytes "size 1 1\nread a 1 1\nread a 1 (\n") ≡ refused (Twice 3) 3)
    × (sheet_meaning (bytes "size 1 1\nread a 1 1\nwrite a 1 (\n") ≡ refused (NotSentence 1) 3)
    -- `known` alone has no space after it
    × (sheet_meaning (bytes "size 1 1\nteam 1\nknown \nmake a\n") ≡ refused (Malformed 3) 3)
    × (sheet_meaning (bytes "size 1 1\nteam 1\nknown ~a\nmake a\n") ≡ stated (record {
      size = size_of 1 1;
      rules = [];
      asked = record { team = 0 ∷ []; known = record { setting = 0; value = false } ∷ []; held = left_out; make = bytes "a"; asks = [] };
    }))
    -- "`held`, a line like `known` without `~`, directly after it, optional"
    × (sheet_meaning (bytes "size 1 1\nteam 1\nknown a\nheld a\nmake a\n") ≡ stated (record {
      size = size_of 1 1;
      rules = [];
      asked = record { team = 0 ∷ []; known = record { setting = 0; value = true } ∷ []; held = holding (0 ∷ []); make = bytes "a"; asks = [] };
    }))
    × (sheet_meaning (bytes "size 1 1\nteam 1\nknown\nheld ~a\nmake a\n") ≡ refused (Malformed 4) 4)
    -- "a last line without it is malformed"
    × (sheet_meaning (bytes "size 1 1\nteam 1\nknown\nmake a") ≡ refused (Malformed 4) 4)
    -- "an empty F after its space is 1", "a blank in F is 2"
    × (sheet_meaning (bytes "size 1 1\nteam 1\nknown\nmake \n") ≡ refused FormulaLength 4)
    × (sheet_meaning (bytes "size 1 1\nteam 1\nknown\nmake a \n") ≡ refused (StrayByte 1) 4)
    -- "up to four `ask F`"
    × (sheet_meaning (bytes "size 1 1\nteam 1\nknown\nmake 1\nask a\nask a\nask a\nask a\nask a\n") ≡ refused (Malformed 9) 9)
unfolding is_letter is_sign is_stray is_past is_atom step verdict sentence_answer foreign_answer formula_answer same_right concerns is_stated
    known_settings onto split begins among is_setting is_post is_size digit_at is_rule rule_of is_false bare is_name all_names index_of indexes
    name_words is_names is_team team_of is_known known_by known_of is_held held_of twice unless_refused is_of_rules with_rule size_step rule_step rulesLine rules_from size_from
    rules_read with_team with_known with_held with_make with_ask team_step known_step held_step make_step ask_step held_or_make line_step asked_from sheet_meaning
sheets_computed = (refl, refl, refl, refl, refl, refl, refl, refl, refl, refl, refl, refl, refl, refl, refl, refl, refl)
