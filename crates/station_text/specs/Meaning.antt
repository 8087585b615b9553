-- What a shift's text means, as bytes, and what its bytes mean, as text; each with its first refusal. A text: 24 where it has more than 2,097,152 bytes, then 22
-- with the first line that may not stand there. Bytes: 24 likewise, then "26 odd length", then "27 no act [..] or a second byte that is not 0 or 1 (not 0 for a
-- set)" with the index of the first such record, and last 24 where the text would be too long to be read back.
use Rattle.std.specs.Prelude.{◌≡◌, Bool, true, false, not, ◌||◌, cond, List, [], ◌∷◌, ◌++◌, ℕ, suc, ◌-◌, ◌/◌, ◌%◌, eqb, ltb, length, Option, Some, None, Result, Ok, Err}
use Rattle.ground.specs.Text.{bytes}
use Rattle.refusal.specs.declared.Refusal.{Refusal}
use Rattle.refusal.specs.declared.Refusal.TheVariants.{Malformed, SheetLength, Shift, NoRecord}
use Rattle.print_answer.specs.Listed.{line}
use Rattle.print_answer.specs.Printed.{Prints}
use Rattle.sheet_words.specs.Words.{split, newline, begins}
use Rattle.plancheck_text.specs.Meaning.{stray_rest}
use Rattle.station_text.specs.Records.{is_record, record_text}
use Rattle.station_text.specs.Lines.{records_in, is_line, line_record}

-- it is refused, or these bytes are its other form
pub data Meaning : Type 0 where
  refused : Refusal → Meaning
  gives : List ℕ → Meaning

-- refused if the test holds
unfoldable pub refused_if : Bool → Refusal → Meaning → Meaning
refused_if true r later = refused r
refused_if false r later = later

-- more than 2,097,152 bytes, 2^21
abbrev pub too_long : List ℕ → Bool
too_long s = ltb 2097152 (length s)

-- ---- a text, by its lines: the pieces of `split newline`, of which the last is what follows the last byte 10

-- the number of the first stray line, where the first piece is line L; None where there is none. A last line without byte 10 is stray, whatever it says. There is
-- always a piece, so the first case is never met.
unfoldable pub stray_line : ℕ → List (List ℕ) → Option ℕ
stray_line L [] = Some L
stray_line L (rest ∷ []) = stray_rest L rest
stray_line L (line ∷ another ∷ more) = cond (is_line line) (stray_line (suc L) (another ∷ more)) (Some L)

-- refused at the stray line, if there is one
unfoldable pub unless_stray : Option ℕ → Meaning → Meaning
unless_stray None later = later
unless_stray (Some L) later = refused (Malformed L)

-- the records that the lines give
unfoldable pub lines_bytes : List (List ℕ) → List ℕ
lines_bytes [] = []
lines_bytes (rest ∷ []) = []
lines_bytes (line ∷ another ∷ more) = line_record line ++ lines_bytes (another ∷ more)

unfoldable pub read_meaning : List ℕ → Meaning
read_meaning s =
    refused_if (too_long s) SheetLength (unless_stray (stray_line 1 (split newline s)) (gives (lines_bytes (split newline s))))

-- the number of the line that gives the record with this index, where the first piece is line L; None where there is none
unfoldable pub line_of : ℕ → ℕ → List (List ℕ) → Option ℕ
line_of L index [] = None
line_of L index (rest ∷ []) = None
line_of L index (line ∷ another ∷ more) =
    cond (ltb index (records_in line)) (Some L) (line_of (suc L) (index - records_in line) (another ∷ more))

-- ---- bytes, by their records; an odd byte at the end is none

-- how many records stand before the first that text cannot say
unfoldable pub records_said : List ℕ → ℕ
records_said [] = 0
records_said (c ∷ []) = 0
records_said (c ∷ v ∷ more) = cond (is_record c v) (suc (records_said more)) 0

-- a line a record
unfoldable pub shift_text : List ℕ → List ℕ
shift_text [] = []
shift_text (c ∷ []) = []
shift_text (c ∷ v ∷ more) = line (record_text c v) ++ shift_text more

unfoldable pub print_meaning : List ℕ → Meaning
print_meaning s =
    refused_if (too_long s) SheetLength
    (refused_if (not (eqb (length s % 2) 0)) Shift
    (refused_if (ltb (records_said s) (length s / 2)) (NoRecord (records_said s))
    (refused_if (too_long (shift_text s)) SheetLength (gives (shift_text s)))))

-- ---- what is told, and what the lent room holds: what is given from its start on, as far as it fits, with its whole length; beside a refusal the room is as
-- it was
abbrev pub Tells : Meaning → Result ℕ Refusal → List ℕ → List ℕ → Type 0
Tells (refused r) (Err why) old new = (why ≡ r) × (new ≡ old)
Tells (refused r) (Ok count) old new = ⊥
Tells (gives s) (Err why) old new = ⊥
Tells (gives s) (Ok count) old new = Prints old s count new

-- it begins with `look `, `set ` or `# `
unfoldable pub is_text : List ℕ → Bool
is_text s = begins (bytes "look ") s || begins (bytes "set ") s || begins (bytes "# ") s
