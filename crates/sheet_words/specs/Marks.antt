-- What words name, as marks: a bit for each thing that is named, a bit for each that is named without `~`, and whether one is named twice.
use Rattle.std.specs.Prelude.{◌≡◌, Bool, true, false, ◌&&◌, ◌||◌, List, ℕ, eqb, leb, Option, Some, None}
use Rattle.ground.specs.Digits.{bit}
use Rattle.sheet_words.specs.Words.{all_names, indexes, true_indexes, member, twice}
use Rattle.sheet_words.specs.declared.names.Marks.{Marks}

-- one name more
pub record Marking (old : Marks) (i : ℕ) (value : Bool) (new : Marks) : Type 0 where
  pub named : (j : ℕ) → bit new.named j ≡ (bit old.named j || eqb i j)
  pub values : (j : ℕ) → bit new.values j ≡ (bit old.values j || (value && eqb i j))
  pub again : new.twice ≡ (old.twice || bit old.named i)

-- all that the words name
pub record Marked (first : ℕ) (words : List (List ℕ)) (marks : Marks) : Type 0 where
  pub named : (j : ℕ) → bit marks.named j ≡ member j (indexes first words)
  pub values : (j : ℕ) → bit marks.values j ≡ member j (true_indexes first words)
  pub again : marks.twice ≡ twice (λ i. false) (indexes first words)

-- the answer to whether words are names, with the marks where they are
abbrev pub Names : Bool → ℕ → List (List ℕ) → Option Marks → Type 0
Names true first words (Some marks) = Marked first words marks
Names true first words None = ⊥
Names false first words (Some marks) = ⊥
Names false first words None = Unit

-- of at most eight things, since a byte has eight bits
unfoldable pub are_names : Bool → ℕ → ℕ → List (List ℕ) → Bool
are_names signed first count words = leb count 8 && all_names signed first count words
