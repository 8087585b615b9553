-- The meaning of a question text that may have a second leg, over n settings and m posts: what each leg asks, or the first refusal. "After the first leg's
-- lines the line `then`, and after it `team`, `make` and up to four `ask` lines." First 24; then line by line 22, 23, the formula's number.
use Rattle.std.specs.Prelude.{Bool, true, false, ◌&&◌, cond, List, [], ◌∷◌, ℕ, suc, eqb, ltb, length}
use Rattle.ground.specs.Text.{bytes}
use Rattle.refusal.specs.declared.Refusal.{Refusal}
use Rattle.refusal.specs.declared.Refusal.TheVariants.{SheetLength}
use Rattle.sheet_words.specs.Words.{split, newline, begins}
use Rattle.sheet_question.specs.Asked.{Asked, nothing_asked}
use Rattle.sheet_question.specs.Question.{QuestionMeaning, refused, asked, asked_from}
use Rattle.sheet_question.specs.Second.{second_from}
use Rattle.sheet_question.specs.declared.desk.Due.TheVariants.{Team}

-- a line that is `then`, exactly these four bytes
unfoldable pub is_then : List ℕ → Bool
is_then line = eqb (length line) 4 && begins (bytes "then") line

-- the pieces of a text with no such line; or those of the text before the first such line, and those of the text behind it
pub data Cut : Type 0 where
  whole : Cut
  parted : (first second : List (List ℕ)) → Cut

-- with one line more in front
abbrev pub ahead : List ℕ → Cut → Cut
ahead line whole = whole
ahead line (parted first second) = parted (line ∷ first) second

-- the last piece, what follows the last byte 10, is no line; the text before a line is empty or ends in byte 10, so that its last piece is empty
unfoldable pub cut_lines : List (List ℕ) → Cut
cut_lines [] = whole
cut_lines (rest ∷ []) = whole
cut_lines (line ∷ another ∷ more) = elim (is_then line) [ true ↦ parted ([] ∷ []) (another ∷ more) | false ↦ ahead line (cut_lines (another ∷ more)) ]

-- a refusal and its line, which is what is printed as its place; or what is asked, with one leg or with two
pub data LegsMeaning : Type 0 where
  refused_at : Refusal → (line : ℕ) → LegsMeaning
  one : Asked → LegsMeaning
  two : (first second : Asked) → LegsMeaning

abbrev pub one_leg : QuestionMeaning → LegsMeaning
one_leg (refused r line) = refused_at r line
one_leg (asked a) = one a

-- the first leg's refusal comes before the second's
abbrev pub first_then : QuestionMeaning → QuestionMeaning → LegsMeaning
first_then (refused r line) second = refused_at r line
first_then (asked a) (refused r line) = refused_at r line
first_then (asked a) (asked b) = two a b

-- by where the text is cut: a first leg of so many pieces has its last one, the empty one, in the place of the line `then`. So a first leg that is not
-- whole is 22 at that line, and the second leg begins one line later
abbrev pub legs_of : ℕ → ℕ → List (List ℕ) → Cut → LegsMeaning
legs_of n m pieces whole = one_leg (asked_from true n m 1 Team nothing_asked pieces)
legs_of n m pieces (parted first second) = first_then (asked_from true n m 1 Team nothing_asked first) (second_from n m (suc (length first)) second)

-- "at most 65,536 bytes (else 24)", the whole text, before all else
unfoldable pub legs_meaning : ℕ → ℕ → List ℕ → LegsMeaning
legs_meaning n m text = cond (ltb 65536 (length text)) (refused_at SheetLength 0) (legs_of n m (split newline text) (cut_lines (split newline text)))
