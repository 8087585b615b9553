-- "For each setting the team has one of seven knowledge digits (document 001, section 5.3). The last two columns give the
-- digit after a set." What a digit tells of a value, its side, is a number: 0 unknown, 1 false, 2 true.
use Rattle.std.specs.Prelude.{Bool, true, false, List, [], ◌∷◌, ℕ, get_or}

abbrev pub unknown : ℕ
unknown = 0

-- the side that tells a value
abbrev pub told : Bool → ℕ
told false = 1
told true = 2

-- a row of the table: start, now, set false, set true
pub record DigitRow : Type 0 where
  pub start_side : ℕ
  pub now_side : ℕ
  pub set_false : ℕ
  pub set_true : ℕ

abbrev row : ℕ → ℕ → ℕ → ℕ → DigitRow
row s n f t = record { start_side = s; now_side = n; set_false = f; set_true = t }

-- the table, by digit from 0 to 6
unfoldable pub rows : List DigitRow
rows =
    row unknown unknown 1 2
    ∷ row unknown (told false) 1 2
    ∷ row unknown (told true) 1 2
    ∷ row (told false) (told false) 3 4
    ∷ row (told false) (told true) 3 4
    ∷ row (told true) (told false) 5 6
    ∷ row (told true) (told true) 5 6
    ∷ []

-- the row of a digit; what is no digit tells nothing
unfoldable pub row_of : ℕ → DigitRow
unfolding rows
row_of d = get_or rows d (row unknown unknown 0 0)

-- column "start"
unfoldable pub start_told : ℕ → ℕ
unfolding row_of
start_told d = (row_of d).start_side

-- column "now"
unfoldable pub now_told : ℕ → ℕ
unfolding row_of
now_told d = (row_of d).now_side

-- columns "set false" and "set true"
unfoldable pub after_set : ℕ → Bool → ℕ
unfolding row_of
after_set d false = (row_of d).set_false
after_set d true = (row_of d).set_true

-- "A look has two outcomes, digits 3 and 6."
unfoldable pub after_look : Bool → ℕ
after_look false = 3
after_look true = 6

-- "At the start each digit is 0, 3 or 6": 0 where nothing is known of the setting, else 3 for false and 6 for true
unfoldable pub first_digit : Bool → Bool → ℕ
first_digit false value = 0
first_digit true false = 3
first_digit true true = 6
