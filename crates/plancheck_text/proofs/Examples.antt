-- Texts computed: a plan, and the refusals that are easy to get wrong. Each holds by computing the meaning.
use mathlib.Core.Path.{◌≡◌, refl}
use mathlib.Core.List.{[], ◌∷◌}
use Rattle.ground.specs.Text.{bytes}
use Rattle.knowledge_acts.specs.Acts.{byte_of, plan_byte}
use Rattle.refusal.specs.declared.Refusal.TheVariants.{Malformed}
use Rattle.sheet_words.specs.Words.{onto, split, begins, among}
use Rattle.plancheck_text.specs.Lines.{digit_count, is_number, is_reach_line, stands_for, has_form, is_stop, is_look, is_set, words_byte}
use Rattle.plancheck_text.specs.Lines.{after_depth, is_plan_line, line_byte}
use Rattle.plancheck_text.specs.Meaning.{refused, plan, stray_line, line_bytes, lines_meaning, plan_text_meaning}

pub texts_computed :
    (plan_text_meaning (bytes "reach 2\n0 look g 8\n1 set a 1 1\n2 stop\n1 set b 1 0\n2 stop\n") ≡ plan (168 ∷ 57 ∷ 0 ∷ 9 ∷ 0 ∷ []))
    -- "their values are not judged"
    × (plan_text_meaning (bytes "reach 007\n99 stop\n") ≡ plan (0 ∷ []))
    -- "`reach H`" alone is a plan of no bytes; nothing at all ends early
    × (plan_text_meaning (bytes "reach 0\n") ≡ plan [])
    × (plan_text_meaning (bytes "") ≡ refused (Malformed 1))
    -- "A last line without byte 10 is 22 at that line"
    × (plan_text_meaning (bytes "reach 0") ≡ refused (Malformed 1))
    × (plan_text_meaning (bytes "reach 0\n0 stop") ≡ refused (Malformed 2))
    -- "any other line is 22": an empty line, a remark, no depth, two spaces, a space at the end, a setting, a post or a value that there is not
    × (plan_text_meaning (bytes "reach 0\n0 stop\n\n") ≡ refused (Malformed 3))
    × (plan_text_meaning (bytes "reach 0\n# 0\n0 stop\n") ≡ refused (Malformed 2))
    × (plan_text_meaning (bytes "reach \n0 stop\n") ≡ refused (Malformed 1))
    × (plan_text_meaning (bytes "reach 0\n stop\n") ≡ refused (Malformed 2))
    × (plan_text_meaning (bytes "reach 0\n0  stop\n") ≡ refused (Malformed 2))
    × (plan_text_meaning (bytes "reach 0\n0 stop \n") ≡ refused (Malformed 2))
    × (plan_text_meaning (bytes "reach 1\n0 look h 1\n") ≡ refused (Malformed 2))
    × (plan_text_meaning (bytes "reach 1\n0 look a 9\n") ≡ refused (Malformed 2))
    × (plan_text_meaning (bytes "reach 1\n0 set a 1 2\n") ≡ refused (Malformed 2))
    × (plan_text_meaning (bytes "cannot\n") ≡ refused (Malformed 1))
unfolding onto split begins among digit_count is_number is_reach_line stands_for has_form is_stop is_look is_set words_byte after_depth
    is_plan_line line_byte stray_line line_bytes lines_meaning plan_text_meaning byte_of plan_byte
texts_computed = (refl, refl, refl, refl, refl, refl, refl, refl, refl, refl, refl, refl, refl, refl, refl, refl)
