-- What the public functions give.
use Rattle.std.specs.Prelude.{◌≡◌, List, ℕ, suc, ◌≤◌, length, drop, Result, Ok, Err}
use Rattle.sheet_words.specs.Words.{split, newline}
use Rattle.sheet_words.specs.declared.Fault.{Fault}
use Rattle.sheet_rules.specs.Desk.{OnDesk}
use Rattle.sheet_rules.specs.Reading.{Reading, refused, up_to}
use Rattle.sheet_rules.specs.Meaning.{Meaning, stated}
use Rattle.sheet_rules.specs.Meaning.{refused as whole-refused}
use Rattle.sheet_rules.specs.declared.desk.RulesDesk.{RulesDesk}
use Rattle.sheet_rules.specs.declared.RulesRead.{RulesRead}

-- `rules_of`: the byte where the rules end is where what is left of the text begins; the lines before it are numbered 1 to `lines`
abbrev pub ReadsUpto : List ℕ → Reading → Result RulesRead Fault → Type 0
ReadsUpto text (refused r line) (Err f) = (f.why ≡ r) × (f.line ≡ line)
ReadsUpto text (refused r line) (Ok read) = ⊥
ReadsUpto text (up_to rules line pieces) (Err f) = ⊥
ReadsUpto text (up_to rules line pieces) (Ok read) =
    (read.at ≤ length text) × (split newline (drop read.at text) ≡ pieces) × (suc read.lines ≡ line) × OnDesk rules read.desk

-- `read_rules`
abbrev pub ReadsRules : Meaning → Result RulesDesk Fault → Type 0
ReadsRules (whole-refused r line) (Err f) = (f.why ≡ r) × (f.line ≡ line)
ReadsRules (whole-refused r line) (Ok d) = ⊥
ReadsRules (stated rules) (Err f) = ⊥
ReadsRules (stated rules) (Ok d) = OnDesk rules d
