-- START: "START names every setting (`'a ~b c ~d'`)", "each setting of the book once, in any order, else trouble". Its words are split by one space; a word
-- without `~` is on, one with `~` is off.
use Rattle.std.specs.Prelude.{◌≡◌, Bool, true, false, not, ◌&&◌, List, ℕ, ◌^◌, ◌<◌, Option, Some, None}
use Rattle.ground.specs.Digits.{bit}
use Rattle.ground.specs.Search.{all}
use Rattle.sheet_words.specs.Words.{split, space, indexes, true_indexes, member, twice}
use Rattle.sheet_words.specs.Marks.{are_names}

abbrev pub start_words : List ℕ → List (List ℕ)
start_words start = split space start

-- each word names one of the n settings, `a`, byte 97, being setting 0; none is named twice; and each is named
unfoldable pub names_all : ℕ → List (List ℕ) → Bool
names_all n words = are_names true 97 n words && not (twice (λ i. false) (indexes 97 words)) && all n (λ i. member i (indexes 97 words))

-- "A valuation is a number v below 2^n whose bit i is setting i": it is on where its word has no `~`
pub record StartIs (n : ℕ) (words : List (List ℕ)) (v : ℕ) : Type 0 where
  pub below : v < 2 ^ n
  pub on : (i : ℕ) → i < n → bit v i ≡ member i (true_indexes 97 words)

-- what START says, by whether its words name all settings
abbrev pub Starts : ℕ → Bool → List (List ℕ) → Option ℕ → Type 0
Starts n true words (Some v) = StartIs n words v
Starts n true words None = ⊥
Starts n false words (Some v) = ⊥
Starts n false words None = Unit
