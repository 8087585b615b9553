-- What a sheet states: rules, and what is asked of them. "In order: `size N M`; any count of `read P G F` and `write P G F`" are its rules
-- (sheet_rules/specs/Rules); "`team G ..`; `known` [..]; `make F`; up to four `ask F`", with `held` after `known`, are what it asks (sheet_question/specs/Asked).
use Rattle.std.specs.Prelude.{List, [], ℕ}
use Rattle.sheet_rules.specs.Rules.{Size, Rule, Rules, size_of}
use Rattle.sheet_question.specs.Asked.{Asked, nothing_asked}

-- all that a sheet states: the size and the rights of its rules, and what it asks
pub record Sheet : Type 0 where
  pub size : Size
  pub rules : List Rule
  pub asked : Asked

-- from the two
abbrev pub sheet_of : Rules → Asked → Sheet
sheet_of rules asked = record { size = rules.size; rules = rules.rules; asked = asked }

-- a sheet of which only the size is stated
unfoldable pub sized : ℕ → ℕ → Sheet
sized n m = record { size = size_of n m; rules = []; asked = nothing_asked }
