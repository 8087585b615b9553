-- The lines of a plan's text: "`reach H`", and "A line per plan byte: depth [..], then `stop`, or `look P G`, or `set P G V` with V 0 or 1." "H and the depths
-- must be decimal numbers, and their values are not judged". A line stands here without its byte 10.
use Rattle.std.specs.Prelude.{Bool, true, false, ◌&&◌, ◌||◌, cond, List, [], ◌∷◌, ℕ, suc, ◌-◌, eqb, ltb, length, get_or, drop}
use Rattle.ground.specs.Text.{byte, bytes}
use Rattle.knowledge_acts.specs.Acts.{plan_byte}
use Rattle.knowledge_acts.specs.declared.act.Act.{Act}
use Rattle.knowledge_acts.specs.declared.act.Act.TheVariants.{Set, Look}
use Rattle.sheet_words.specs.Words.{begins, among}

-- ---- numbers

-- how many digits the text begins with
unfoldable pub digit_count : List ℕ → ℕ
digit_count [] = 0
digit_count (c ∷ s) = cond (among (byte "0") 10 c) (suc (digit_count s)) 0

-- a decimal number: one or more digits, and nothing else; leading zeros and any length are taken
unfoldable pub is_number : List ℕ → Bool
is_number s = ltb 0 (length s) && eqb (digit_count s) (length s)

-- "`reach H`"
unfoldable pub is_reach_line : List ℕ → Bool
is_reach_line line = begins (bytes "reach ") line && is_number (drop 6 line)

-- ---- acts

-- what a byte of a form stands for: "P a setting letter, G a post digit", "V 0 or 1", and any other byte for itself
unfoldable pub stands_for : ℕ → ℕ → Bool
stands_for sign c =
    cond (eqb sign (byte "P")) (among (byte "a") 7 c) (cond (eqb sign (byte "G")) (among (byte "1") 8 c) (cond (eqb sign (byte "V")) (among (byte "0") 2 c) (eqb sign c)))

-- the text has this form, byte by byte
unfoldable pub has_form : List ℕ → List ℕ → Bool
has_form [] [] = true
has_form [] (c ∷ s) = false
has_form (sign ∷ form) [] = false
has_form (sign ∷ form) (c ∷ s) = stands_for sign c && has_form form s

-- what may follow the depth, with the space before it
unfoldable pub is_stop : List ℕ → Bool
is_stop words = has_form (bytes " stop") words

unfoldable pub is_look : List ℕ → Bool
is_look words = has_form (bytes " look P G") words

unfoldable pub is_set : List ℕ → Bool
is_set words = has_form (bytes " set P G V") words

-- the act that a line names
abbrev pub look_of : List ℕ → Act
look_of words = Look (get_or words 6 0 - byte "a") (get_or words 8 0 - byte "1")

abbrev pub set_of : List ℕ → Act
set_of words = Set (get_or words 5 0 - byte "a") (get_or words 7 0 - byte "1") (eqb (get_or words 9 0) (byte "1"))

-- the plan byte of what follows the depth
unfoldable pub words_byte : List ℕ → ℕ
words_byte words = cond (is_stop words) 0 (cond (is_look words) (plan_byte (look_of words)) (plan_byte (set_of words)))

-- ---- a line per plan byte

-- what follows the depth
unfoldable pub after_depth : List ℕ → List ℕ
after_depth line = drop (digit_count line) line

unfoldable pub is_plan_line : List ℕ → Bool
is_plan_line line = ltb 0 (digit_count line) && (is_stop (after_depth line) || is_look (after_depth line) || is_set (after_depth line))

-- its plan byte
unfoldable pub line_byte : List ℕ → ℕ
line_byte line = words_byte (after_depth line)
