-- The lines of a shift's text: `look P G V`, `set P G V`, and lines that are passed over. A line stands here without its byte 10. What P, G and V stand for
-- is said in plancheck_text/specs/Lines.
use Rattle.std.specs.Prelude.{Bool, ◌||◌, cond, List, [], ◌∷◌, ℕ, ◌-◌, eqb, get_or}
use Rattle.ground.specs.Text.{byte, bytes}
use Rattle.knowledge_acts.specs.Acts.{plan_byte}
use Rattle.knowledge_acts.specs.declared.act.Act.{Act}
use Rattle.knowledge_acts.specs.declared.act.Act.TheVariants.{Set, Look}
use Rattle.sheet_words.specs.Words.{passed_over}
use Rattle.plancheck_text.specs.Lines.{has_form}

unfoldable pub is_look : List ℕ → Bool
is_look line = has_form (bytes "look P G V") line

unfoldable pub is_set : List ℕ → Bool
is_set line = has_form (bytes "set P G V") line

unfoldable pub gives_record : List ℕ → Bool
gives_record line = is_look line || is_set line

-- how many records it gives
unfoldable pub records_in : List ℕ → ℕ
records_in line = cond (gives_record line) 1 0

-- a line may stand in the text where it is passed over, as it is empty or begins with `#`, or gives a record; any other is 22
unfoldable pub is_line : List ℕ → Bool
is_line line = passed_over line || gives_record line

-- the act that a line names
abbrev pub look_of : List ℕ → Act
look_of line = Look (get_or line 5 0 - byte "a") (get_or line 7 0 - byte "1")

abbrev pub set_of : List ℕ → Act
set_of line = Set (get_or line 4 0 - byte "a") (get_or line 6 0 - byte "1") (eqb (get_or line 8 0) (byte "1"))

-- the two bytes of its record: the act byte, and "what was seen (0 or 1; 0 for a set)"
unfoldable pub line_act : List ℕ → ℕ
line_act line = cond (is_look line) (plan_byte (look_of line)) (plan_byte (set_of line))

unfoldable pub line_seen : List ℕ → ℕ
line_seen line = cond (is_look line) (get_or line 9 0 - byte "0") 0

-- what the line adds to the shift's bytes
unfoldable pub line_record : List ℕ → List ℕ
line_record line = cond (gives_record line) (line_act line ∷ line_seen line ∷ []) []
