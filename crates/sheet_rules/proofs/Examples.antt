-- Texts of rules computed: a small one, and the refusals that are easy to get wrong. Each holds by computing the meaning.
use mathlib.Core.Path.{◌≡◌, refl}
use mathlib.Core.List.{[], ◌∷◌}
use mathlib.Core.Bool.{false}
use Rattle.ground.specs.Text.{bytes}
use Rattle.refusal.specs.declared.Refusal.TheVariants.{NotSentence, Malformed, Twice, SheetSettings}
use Rattle.formula_grammar.specs.Signs.{is_letter, is_sign, is_stray, is_past}
use Rattle.formula_grammar.specs.Automaton.{is_atom, step, verdict}
use Rattle.formula.specs.Computed.{sentence_answer, foreign_answer, formula_answer}
use Rattle.book_block.specs.declared.rule.Right.TheVariants.{Look, Set}
use Rattle.sheet_words.specs.Words.{onto, split, begins, passed_over, among}
use Rattle.sheet_words.specs.Steps.{unless_refused}
use Rattle.sheet_rules.specs.Rules.{size_of, with_rule, same_right, concerns, is_stated}
use Rattle.sheet_rules.specs.Forms.{is_size, digit_at, is_setting, is_post, is_rule, rule_of, is_of_rules}
use Rattle.sheet_rules.specs.Steps.{size_step, rule_step, line_step}
use Rattle.sheet_rules.specs.Reading.{up_to, rules_from, size_from, rules_read, rules_of}
use Rattle.sheet_rules.specs.Reading.{refused as reading-refused}
use Rattle.sheet_rules.specs.Meaning.{refused, stated, rules_meaning}

pub rules_computed :
    -- lines that are passed over, before the size, between and after
    (rules_meaning (bytes "# the night\n\nsize 7 2\n# the lamp\nwrite a 2 ~g\n\nread g 2 1\n#\n") ≡ stated (record {
      size = size_of 7 2;
      rules = record { right = Set; setting = 0; post = 1; text = bytes "~g" } ∷ record { right = Look; setting = 6; post = 1; text = bytes "1" } ∷ [];
    }))
    -- line numbers count them
    × (rules_meaning (bytes "# the night\n\nsize 7 2\n# the lamp\nwrite a 3 1\n") ≡ refused (Malformed 5) 5)
    × (rules_meaning (bytes "#\nsize 1 1\n#\nread a 1 1\n\nread a 1 (\n") ≡ refused (Twice 6) 6)
    × (rules_meaning (bytes "#\nsize 1 1\n#\nwrite a 1 (\n") ≡ refused (NotSentence 1) 4)
    -- "A text that ends early gets 22 one past its last line, passed-over lines counted"
    × (rules_meaning (bytes "") ≡ refused (Malformed 1) 1)
    × (rules_meaning (bytes "#\n\n") ≡ refused (Malformed 3) 3)
    -- "A last line without byte 10 is 22 at that line, a `#` line too"
    × (rules_meaning (bytes "size 1 1\nread a 1 1") ≡ refused (Malformed 2) 2)
    × (rules_meaning (bytes "size 1 1\n#") ≡ refused (Malformed 2) 2)
    -- "A line of one space, or of a carriage return, is not empty"
    × (rules_meaning (bytes "size 1 1\n \n") ≡ refused (Malformed 2) 2)
    × (rules_meaning (bytes "size 1 1\n\r\n") ≡ refused (Malformed 2) 2)
    -- "a `team` line in rules is 22"; N is up to 7
    × (rules_meaning (bytes "size 1 1\nteam 1\n") ≡ refused (Malformed 2) 2)
    × (rules_meaning (bytes "size 8 1\n") ≡ refused (Malformed 1) 1)
    -- where a sheet's rules end, and a sheet's 25; in a sheet no line is passed over
    × (rules_of false 5 (bytes "size 1 1\nread a 1 1\nteam 1\n")
    ≡ up_to (record { size = size_of 1 1; rules = record { right = Look; setting = 0; post = 0; text = bytes "1" } ∷ [] }) 3 (bytes "team 1" ∷ [] ∷ []))
    × (rules_of false 5 (bytes "size 6 1\n") ≡ reading-refused SheetSettings 1)
    × (rules_of false 5 (bytes "#\nsize 1 1\n") ≡ reading-refused (Malformed 1) 1)
unfolding is_letter is_sign is_stray is_past is_atom step verdict sentence_answer foreign_answer formula_answer same_right concerns is_stated onto split begins passed_over
    among is_setting is_post is_size digit_at is_rule rule_of is_of_rules unless_refused with_rule size_step rule_step line_step rules_from size_from rules_read rules_of rules_meaning
rules_computed = (refl, refl, refl, refl, refl, refl, refl, refl, refl, refl, refl, refl, refl, refl, refl)
