-- The form of each line of rules, and what a line of that form states. "Sheet numbers are one digit"; "F is all that follows the space before it".
use Rattle.std.specs.Prelude.{Bool, ◌&&◌, ◌||◌, List, ℕ, ◌+◌, ◌-◌, eqb, length, get_or, drop}
use Rattle.ground.specs.Text.{byte, bytes}
use Rattle.book_block.specs.declared.rule.Right.{Right}
use Rattle.sheet_words.specs.Words.{space, begins, passed_over, among}
use Rattle.sheet_rules.specs.Rules.{Rule}

-- `size N M`: "N outside 1 to 7, M outside 1 to 8 [..] are 22"
unfoldable pub is_size : List ℕ → Bool
is_size line = begins (bytes "size ") line && eqb (length line) 8 && among (byte "1") 7 (get_or line 5 0) && eqb (get_or line 6 0) space && among (byte "1") 8 (get_or line 7 0)

-- the number that a digit stands for
unfoldable pub digit_at : List ℕ → ℕ → ℕ
digit_at line i = get_or line i 0 - byte "0"

-- "P a setting letter, G a post digit", of n settings and m posts: "a letter or digit past the size outside F [is] 22"
unfoldable pub is_setting : ℕ → ℕ → Bool
is_setting n c = among (byte "a") n c

unfoldable pub is_post : ℕ → ℕ → Bool
is_post m c = among (byte "1") m c

-- `read P G F` and `write P G F`, where w is the first word and the space after it
unfoldable pub is_rule : List ℕ → ℕ → ℕ → List ℕ → Bool
is_rule w n m line =
    begins w line && is_setting n (get_or line (length w) 0) && eqb (get_or line (length w + 1) 0) space && is_post m (get_or line (length w + 2) 0) && eqb (get_or line (length w + 3) 0) space

unfoldable pub rule_of : List ℕ → Right → List ℕ → Rule
rule_of w right line = record {
  right = right;
  setting = get_or line (length w) 0 - byte "a";
  post = get_or line (length w + 2) 0 - byte "1";
  text = drop (length w + 4) line;
}

-- a line of the rules after the size: where the text `passes`, one that is passed over; or one that states a right
unfoldable pub is_of_rules : Bool → ℕ → ℕ → List ℕ → Bool
is_of_rules passes n m line = passes && passed_over line || is_rule (bytes "read ") n m line || is_rule (bytes "write ") n m line
