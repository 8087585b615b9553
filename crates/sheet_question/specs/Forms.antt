-- The form of the lines that name things, `team`, `known` and `held`, and what a line of that form states.
use Rattle.std.specs.Prelude.{Bool, false, true, not, ◌&&◌, ◌||◌, cond, List, [], ◌∷◌, ℕ, ◌+◌, eqb, length, get_or, drop}
use Rattle.ground.specs.Text.{byte, bytes}
use Rattle.sheet_words.specs.Words.{split, space, begins, is_false, all_names, index_of, indexes}
use Rattle.sheet_question.specs.Asked.{Known}

-- ---- a line of names: the word w, and after it names, each with a space before it

-- the names; none where the word stands alone
unfoldable pub name_words : List ℕ → List ℕ → List (List ℕ)
name_words w line = cond (eqb (length line) (length w)) [] (split space (drop (length w + 1) line))

-- whether the word may stand `alone`, names may have `~` before them (`signed`), and which signs they are: `count` from `first` on
unfoldable pub is_names : List ℕ → Bool → Bool → ℕ → ℕ → List ℕ → Bool
is_names w alone signed first count line =
    begins w line && (alone && eqb (length line) (length w) || eqb (get_or line (length w) 0) space) && all_names signed first count (name_words w line)

-- "`team G ..` (one or more)", of m posts
unfoldable pub is_team : ℕ → List ℕ → Bool
is_team m line = is_names (bytes "team") false false (byte "1") m line

unfoldable pub team_of : List ℕ → List ℕ
team_of line = indexes (byte "1") (name_words (bytes "team") line)

-- "`known` with settings, `~` before a false one, or alone", of n settings
unfoldable pub is_known : ℕ → List ℕ → Bool
is_known n line = is_names (bytes "known") true true (byte "a") n line

unfoldable pub known_by : List (List ℕ) → List Known
known_by [] = []
known_by (word ∷ words) = record { setting = index_of (byte "a") word; value = not (is_false word) } ∷ known_by words

unfoldable pub known_of : List ℕ → List Known
known_of line = known_by (name_words (bytes "known") line)

-- "`held`, a line like `known` without `~`": with settings or alone, of n settings
unfoldable pub is_held : ℕ → List ℕ → Bool
is_held n line = is_names (bytes "held") true false (byte "a") n line

unfoldable pub held_of : List ℕ → List ℕ
held_of line = indexes (byte "a") (name_words (bytes "held") line)
