-- The desk after a line that states a right, and what a line does, on the desk; what is left of a text. For the functions of this crate alone.
use Rattle.std.specs.Prelude.{◌≡◌, List, cond, ℕ, ◌-◌, ◌*◌, ◌/◌, ◌%◌, ◌≤◌, ◌<◌, eqb, length, drop, set, replicate, Result, Ok, Err}
use Rattle.std.proofs.lemmas.List.Edits.{sets}
use Rattle.refusal.specs.declared.Refusal.{Refusal}
use Rattle.formula.specs.Read.{Accepts}
use Rattle.book_block.specs.declared.rule.Right.TheVariants.{Look, Set}
use Rattle.sheet_words.specs.Steps.{Step, fault, next}
use Rattle.sheet_rules.specs.Rules.{Rules, unstated}
use Rattle.sheet_rules.specs.Desk.{in_size, table_in, OnDesk}
use Rattle.sheet_rules.specs.declared.desk.RulesDesk.{RulesDesk}

-- a desk from what it holds
abbrev pub rules_laid : ℕ → ℕ → List ℕ → List ℕ → RulesDesk
rules_laid n m rights marks = record { settings = n; posts = m; rights = rights; stated = marks }

-- what stands at a place among all rights where none is stated: the table of an unstated look or set, and past the size zeros
unfoldable pub unstated_at : ℕ → ℕ → List ℕ → List ℕ → ℕ → List ℕ
unstated_at n m looks sets slot = cond (in_size n m (slot / 16) (slot % 16 / 2)) (cond (eqb (slot % 2) 0) looks sets) (replicate 16 0)

-- rights of which none is stated, up to a place
pub record Laid (n m : ℕ) (looks sets : List ℕ) (count : ℕ) (rights : List ℕ) : Type 0 where
  pub size : length rights ≡ 1792
  pub at : (slot : ℕ) → slot < count → table_in rights slot ≡ unstated_at n m looks sets slot

-- all of them, by what an unstated right is
pub record Unstated (n m : ℕ) (rights : List ℕ) : Type 0 where
  pub looks : List ℕ
  pub sets : List ℕ
  pub look_table : Accepts n (unstated Look) looks
  pub set_table : Accepts n (unstated Set) sets
  pub laid : Laid n m looks sets 112 rights

-- the desk with one right more, whose place is the slot
unfoldable pub ruled_desk : RulesDesk → ℕ → List ℕ → RulesDesk
ruled_desk d slot t = rules_laid d.settings d.posts (sets d.rights (16 * slot) t) (set d.stated slot 1)

-- what a line does, on the desk
abbrev pub Turns : Step Rules → Result RulesDesk Refusal → Type 0
Turns (fault r) (Err why) = why ≡ r
Turns (fault r) (Ok d) = ⊥
Turns (next rules) (Err why) = ⊥
Turns (next rules) (Ok d) = OnDesk rules d

-- what is left of a text, from some byte on
pub record Rest (text rest : List ℕ) : Type 0 where
  pub within : length rest ≤ length text
  pub is : rest ≡ drop (length text - length rest) text
