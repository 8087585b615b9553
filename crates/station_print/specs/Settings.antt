-- All n settings of a book on the valuation v, one after the other by their letters. As START writes them: `~a b ~c d`. In words: `a is off, b on, c off, d off`.
use Rattle.std.specs.Prelude.{Bool, true, false, List, [], ◌∷◌, ◌++◌, ℕ, zero, suc}
use Rattle.ground.specs.Digits.{bit}
use Rattle.ground.specs.Text.{byte, bytes}
use Rattle.book_sound.specs.Sound.{in_order}
use Rattle.print_answer.specs.Listed.{letter}

-- the text stands before every setting but the first
abbrev pub between : ℕ → List ℕ → List ℕ
between zero text = []
between (suc i) text = text

-- ---- as START writes them

-- "a word without `~` is on"
abbrev pub named : ℕ → Bool → List ℕ
named i true = letter i ∷ []
named i false = byte "~" ∷ letter i ∷ []

abbrev pub setting_name : ℕ → Bool → List ℕ
setting_name i on = between i (bytes " ") ++ named i on

unfoldable pub setting_names : ℕ → ℕ → List ℕ
setting_names n v = in_order (λ i. setting_name i (bit v i)) n

-- ---- in words

abbrev pub on_off : Bool → List ℕ
on_off true = bytes "on"
on_off false = bytes "off"

-- "a is off, b on": the first has a verb
abbrev pub verb : ℕ → List ℕ
verb zero = bytes " is "
verb (suc i) = bytes " "

abbrev pub setting_word : ℕ → Bool → List ℕ
setting_word i on = between i (bytes ", ") ++ letter i ∷ (verb i ++ on_off on)

unfoldable pub setting_words : ℕ → ℕ → List ℕ
setting_words n v = in_order (λ i. setting_word i (bit v i)) n
