-- The book of rules, and what is made of a text of rules: "rules text to book bytes or a numbered refusal with its line".
use Rattle.std.specs.Prelude.{◌≡◌, List, ◌++◌, ℕ, ◌+◌, ◌*◌, ◌≤◌, ◌<◌, length, drop, replicate, Result, Ok, Err}
use Rattle.formula.specs.Read.{Accepts}
use Rattle.refusal.specs.declared.Refusal.TheVariants.{Room}
use Rattle.book_block.specs.Rule.{table}
use Rattle.book_block.specs.declared.rule.Right.{Right}
use Rattle.book_sound.specs.Sound.{tables_of}
use Rattle.book.specs.Written.{book_of}
use Rattle.sheet_words.specs.declared.Fault.{Fault}
use Rattle.sheet_rules.specs.Rules.{Rules, rule_text}
use Rattle.sheet_rules.specs.Meaning.{Meaning, refused, stated}

-- the rights of rules: "Every rule [..] is worked on as a table", that of its text, stated or not; "Tables of posts that don't exist [..] are zero"
pub record RulesRights (rules : Rules) (rights : List ℕ) : Type 0 where
  pub size : length rights ≡ 256 * rules.size.settings
  pub tables : (right : Right) (i q : ℕ) → i < rules.size.settings → q < rules.size.posts
      → Accepts rules.size.settings (rule_text rules.rules right i q) (table (tables_of rights i) q right)
  pub nobody : (right : Right) (i q : ℕ) → i < rules.size.settings → rules.size.posts ≤ q → q < 8
      → table (tables_of rights i) q right ≡ replicate 16 0

-- the book of the rules' size with these rights
abbrev pub rules_book : Rules → List ℕ → List ℕ
rules_book rules rights = book_of rules.size.settings rules.size.posts rights

-- how long it is: "512 × (1 + n)"
abbrev pub book_length : Rules → ℕ
book_length rules = 512 * (1 + rules.size.settings)

-- what is made of rules, with the room before and after: the book at the start of the room and "no others"; or 15, which "writes nothing"
abbrev pub MakesOf : Rules → List ℕ → Result ℕ Fault → List ℕ → Type 0
MakesOf rules room (Ok size) after =
    (size ≡ book_length rules) × (book_length rules ≤ length room)
    × ((rights : List ℕ) × RulesRights rules rights × (after ≡ rules_book rules rights ++ drop (book_length rules) room))
MakesOf rules room (Err f) after = (f.why ≡ Room) × (f.line ≡ 0) × (length room < book_length rules) × (after ≡ room)

-- what is made of a text of rules, by what it means: "Order of `book`: 24, the lines, 15."
abbrev pub MakesBook : Meaning → List ℕ → Result ℕ Fault → List ℕ → Type 0
MakesBook (refused r at) room (Ok size) after = ⊥
MakesBook (refused r at) room (Err f) after = (f.why ≡ r) × (f.line ≡ at) × (after ≡ room)
MakesBook (stated rules) room answer after = MakesOf rules room answer after
