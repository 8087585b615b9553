-- What rules state: "`size N M`; any count of `read P G F` and `write P G F` (P a setting letter, G a post digit)". Formulas are kept as their text.
use Rattle.std.specs.Prelude.{Bool, true, false, ◌&&◌, ◌||◌, cond, List, [], ◌∷◌, ◌++◌, ℕ, eqb}
use Rattle.ground.specs.Text.{bytes}
use Rattle.book_block.specs.declared.rule.Right.{Right}
use Rattle.book_block.specs.declared.rule.Right.TheVariants.{Look, Set}

-- `size N M`
pub record Size : Type 0 where
  pub settings : ℕ
  pub posts : ℕ

-- `read P G F`, the rule to look, or `write P G F`, the rule to set: P and G as indexes, F as it stands
pub record Rule : Type 0 where
  pub right : Right
  pub setting : ℕ
  pub post : ℕ
  pub text : List ℕ

-- all that rules state, the rights in their order
pub record Rules : Type 0 where
  pub size : Size
  pub rules : List Rule

abbrev pub size_of : ℕ → ℕ → Size
size_of n m = record { settings = n; posts = m }

-- rules of which only the size is stated
abbrev pub sized : ℕ → ℕ → Rules
sized n m = record { size = size_of n m; rules = [] }

-- one right more
unfoldable pub with_rule : Rules → Rule → Rules
with_rule rules r = record { size = rules.size; rules = rules.rules ++ (r ∷ []) }

-- ---- rights

unfoldable pub same_right : Right → Right → Bool
same_right Look Look = true
same_right Look Set = false
same_right Set Look = false
same_right Set Set = true

-- r states the right of setting i for the post with index q
unfoldable pub concerns : Rule → Right → ℕ → ℕ → Bool
concerns r right i q = same_right r.right right && eqb r.setting i && eqb r.post q

-- the right is stated by one of the rules
unfoldable pub is_stated : List Rule → Right → ℕ → ℕ → Bool
is_stated [] right i q = false
is_stated (r ∷ rs) right i q = concerns r right i q || is_stated rs right i q

-- what a right is that nobody wrote down, as formula text: "Sheets must read an unstated `read` as `1` and an unstated `write` as `0`" (R-2)
unfoldable pub unstated : Right → List ℕ
unstated Look = bytes "1"
unstated Set = bytes "0"

-- the text of a right
unfoldable pub rule_text : List Rule → Right → ℕ → ℕ → List ℕ
rule_text [] right i q = unstated right
rule_text (r ∷ rs) right i q = cond (concerns r right i q) r.text (rule_text rs right i q)
