-- Texts and shifts computed: a shift with comments, and the refusals that are easy to get wrong. Each holds by computing the meaning.
use Rattle.std.specs.Prelude.{Some, None}
use mathlib.Core.Path.{◌≡◌, refl}
use mathlib.Core.List.{[], ◌∷◌}
use Rattle.ground.specs.Text.{bytes}
use Rattle.knowledge_acts.specs.Acts.{byte_of, plan_byte, act_of}
use Rattle.refusal.specs.declared.Refusal.TheVariants.{Malformed, Shift, NoRecord}
use Rattle.sheet_words.specs.Words.{onto, split, newline, among, passed_over}
use Rattle.plancheck_text.specs.Lines.{stands_for, has_form}
use Rattle.station_text.specs.Records.{is_record, record_text}
use Rattle.station_text.specs.Lines.{is_look, is_set, gives_record, records_in, is_line, line_act, line_seen, line_record}
use Rattle.station_text.specs.Meaning.{refused, gives, refused_if, unless_stray, stray_line, lines_bytes, read_meaning, line_of, records_said, shift_text, print_meaning}

pub texts_computed :
    (read_meaning (bytes "# a shift\nlook g 8 1\n\nset a 1 1\nset b 1 0\n") ≡ gives (168 ∷ 1 ∷ 57 ∷ 0 ∷ 9 ∷ 0 ∷ []))
    -- a text without records
    × (read_meaning (bytes "") ≡ gives [])
    × (read_meaning (bytes "#\n\n") ≡ gives [])
    -- a last line without byte 10, also one that begins with `#`
    × (read_meaning (bytes "look a 1 0") ≡ refused (Malformed 1))
    × (read_meaning (bytes "\n# a shift") ≡ refused (Malformed 2))
    -- any other line: a space first or last, no value, a setting, a post or a value that there is not
    × (read_meaning (bytes "\n look a 1 0\n") ≡ refused (Malformed 2))
    × (read_meaning (bytes "look a 1 0 \n") ≡ refused (Malformed 1))
    × (read_meaning (bytes "look a 1\n") ≡ refused (Malformed 1))
    × (read_meaning (bytes "look h 1 0\n") ≡ refused (Malformed 1))
    × (read_meaning (bytes "set a 9 0\n") ≡ refused (Malformed 1))
    × (read_meaning (bytes "set a 1 2\n") ≡ refused (Malformed 1))
unfolding onto split among passed_over stands_for has_form is_look is_set gives_record is_line line_act line_seen line_record refused_if unless_stray stray_line lines_bytes read_meaning byte_of plan_byte
texts_computed = (refl, refl, refl, refl, refl, refl, refl, refl, refl, refl, refl)

pub lines_computed :
    (line_of 1 0 (split newline (bytes "# a shift\nlook g 8 1\n\nset a 1 1\n")) ≡ Some 2)
    × (line_of 1 1 (split newline (bytes "# a shift\nlook g 8 1\n\nset a 1 1\n")) ≡ Some 4)
    × (line_of 1 2 (split newline (bytes "# a shift\nlook g 8 1\n\nset a 1 1\n")) ≡ None)
    -- what follows the last byte 10 is no line
    × (line_of 1 0 (split newline (bytes "look g 8 1")) ≡ None)
unfolding onto split among stands_for has_form is_look is_set gives_record records_in line_of
lines_computed = (refl, refl, refl, refl)

pub shifts_computed :
    (print_meaning (168 ∷ 1 ∷ 57 ∷ 0 ∷ 9 ∷ 0 ∷ []) ≡ gives (bytes "look g 8 1\nset a 1 1\nset b 1 0\n"))
    × (print_meaning [] ≡ gives [])
    -- "26 odd length", before 27
    × (print_meaning (0 ∷ 0 ∷ 0 ∷ []) ≡ refused Shift)
    -- "27 no act [..] or a second byte that is not 0 or 1 (not 0 for a set)"
    × (print_meaning (168 ∷ 1 ∷ 0 ∷ 0 ∷ []) ≡ refused (NoRecord 1))
    × (print_meaning (169 ∷ 0 ∷ []) ≡ refused (NoRecord 0))
    × (print_meaning (168 ∷ 2 ∷ []) ≡ refused (NoRecord 0))
    × (print_meaning (1 ∷ 1 ∷ []) ≡ refused (NoRecord 0))
unfolding act_of is_record record_text records_said shift_text print_meaning refused_if
shifts_computed = (refl, refl, refl, refl, refl, refl, refl)
