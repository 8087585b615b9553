-- What the desk holds of rules so far: each formula as its table.
use Rattle.std.specs.Prelude.{◌≡◌, Bool, true, false, ◌&&◌, List, ℕ, ◌+◌, ◌*◌, ◌/◌, ◌≤◌, ◌<◌, ltb, length, get_or, take, drop, replicate}
use Rattle.formula.specs.Read.{Accepts}
use Rattle.book_block.specs.Rule.{table_place}
use Rattle.book_block.specs.declared.rule.Right.{Right}
use Rattle.sheet_rules.specs.Rules.{Size, Rule, Rules, is_stated, rule_text}
use Rattle.sheet_rules.specs.declared.desk.RulesDesk.{RulesDesk}

-- "rights 256 × n bytes": a right's place among all in memory, counted in tables; and its table
unfoldable pub slot_of : Right → ℕ → ℕ → ℕ
slot_of right i q = (256 * i + table_place q right) / 16

unfoldable pub table_in : List ℕ → ℕ → List ℕ
table_in rights slot = take 16 (drop (16 * slot) rights)

-- a right that is stated has a mark
abbrev pub mark_of : Bool → ℕ
mark_of true = 1
mark_of false = 0

-- a right of the size has the table of its text, stated or not; past the size all is zero
abbrev pub Filled : Bool → ℕ → List ℕ → List ℕ → Type 0
Filled true n F t = Accepts n F t
Filled false n F t = t ≡ replicate 16 0

abbrev pub in_size : ℕ → ℕ → ℕ → ℕ → Bool
in_size n m i q = ltb i n && ltb q m

-- the size and the rights so far are on the desk
pub record RulesOnDesk (size : Size) (rules : List Rule) (d : RulesDesk) : Type 0 where
  pub settings : d.settings ≡ size.settings
  pub posts : d.posts ≡ size.posts
  pub settings_least : 1 ≤ d.settings
  pub settings_most : d.settings ≤ 7
  pub posts_least : 1 ≤ d.posts
  pub posts_most : d.posts ≤ 8
  pub rights_size : length d.rights ≡ 1792
  pub stated_size : length d.stated ≡ 112
  pub marks : (right : Right) (i q : ℕ) → i < 7 → q < 8 → get_or d.stated (slot_of right i q) 0 ≡ mark_of (is_stated rules right i q)
  pub tables : (right : Right) (i q : ℕ) → i < 7 → q < 8
      → Filled (in_size d.settings d.posts i q) d.settings (rule_text rules right i q) (table_in d.rights (slot_of right i q))

-- all of them
abbrev pub OnDesk : Rules → RulesDesk → Type 0
OnDesk rules d = RulesOnDesk rules.size rules.rules d
