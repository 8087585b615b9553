-- Lines and words are pieces of a text. "Lines count from 1 and end in byte 10"; "Words are split by one space". A word may name a setting or a
-- post by its sign.
use Rattle.std.specs.Prelude.{Bool, true, false, not, ◌&&◌, ◌||◌, cond, List, [], ◌∷◌, ℕ, ◌+◌, ◌-◌, eqb, leb, ltb, length, get_or, drop}
use Rattle.ground.specs.Text.{byte}

-- ---- pieces

-- a byte in front of the first of some pieces
unfoldable pub onto : ℕ → List (List ℕ) → List (List ℕ)
onto c [] = (c ∷ []) ∷ []
onto c (piece ∷ pieces) = (c ∷ piece) ∷ pieces

-- the pieces of s between the bytes `mark`; there is at least one, and the last is what follows the last mark
unfoldable pub split : ℕ → List ℕ → List (List ℕ)
split mark [] = [] ∷ []
split mark (c ∷ s) = cond (eqb c mark) ([] ∷ split mark s) (onto c (split mark s))

-- the first of them, and where the piece that begins at `at` ends: at the next mark, or with the text; past the text's end, at once
unfoldable pub first_piece : List (List ℕ) → List ℕ
first_piece [] = []
first_piece (piece ∷ pieces) = piece

unfoldable pub piece_end : List ℕ → ℕ → ℕ → ℕ
piece_end s at mark = at + length (first_piece (split mark (drop at s)))

-- byte 10, and the space
abbrev pub newline : ℕ
newline = 10

abbrev pub space : ℕ
space = byte " "

-- the line begins with the text w
unfoldable pub begins : List ℕ → List ℕ → Bool
begins [] line = true
begins (c ∷ w) [] = false
begins (c ∷ w) (d ∷ line) = eqb c d && begins w line

-- "lines that begin with `#` and empty lines are passed over", where a text may have such lines
unfoldable pub passed_over : List ℕ → Bool
passed_over [] = true
passed_over (c ∷ line) = eqb c (byte "#")

-- the pieces of a text "without `#` lines and empty lines": none of its lines is one; what follows the last byte 10 is no line
unfoldable pub none_passed : List (List ℕ) → Bool
none_passed [] = true
none_passed (rest ∷ []) = true
none_passed (line ∷ another ∷ more) = not (passed_over line) && none_passed (another ∷ more)

-- ---- names

-- c is one of the `count` signs from `first` on
unfoldable pub among : ℕ → ℕ → ℕ → Bool
among first count c = leb first c && ltb c (first + count)

-- a word with or without `~` in front
unfoldable pub is_false : List ℕ → Bool
is_false word = eqb (get_or word 0 0) (byte "~")

unfoldable pub bare : List ℕ → List ℕ
bare word = cond (is_false word) (drop 1 word) word

-- a word that is one of the `count` signs from `first` on; where `signed`, `~` may stand before it
unfoldable pub is_name : Bool → ℕ → ℕ → List ℕ → Bool
is_name signed first count word = (signed || not (is_false word)) && eqb (length (bare word)) 1 && among first count (get_or (bare word) 0 0)

unfoldable pub all_names : Bool → ℕ → ℕ → List (List ℕ) → Bool
all_names signed first count [] = true
all_names signed first count (word ∷ words) = is_name signed first count word && all_names signed first count words

-- what a word names, as an index; what all words name, and those without `~`
unfoldable pub index_of : ℕ → List ℕ → ℕ
index_of first word = get_or (bare word) 0 0 - first

unfoldable pub indexes : ℕ → List (List ℕ) → List ℕ
indexes first [] = []
indexes first (word ∷ words) = index_of first word ∷ indexes first words

unfoldable pub true_indexes : ℕ → List (List ℕ) → List ℕ
true_indexes first [] = []
true_indexes first (word ∷ words) = cond (is_false word) (true_indexes first words) (index_of first word ∷ true_indexes first words)

-- x is one of those that are named
unfoldable pub member : ℕ → List ℕ → Bool
member x [] = false
member x (y ∷ ys) = eqb y x || member x ys

-- 23: something is named that is named already
unfoldable pub twice : (ℕ → Bool) → List ℕ → Bool
twice named [] = false
twice named (x ∷ xs) = named x || twice (λ i. named i || eqb x i) xs
