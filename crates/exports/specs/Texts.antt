-- `pj_rules`: what is made of a text of rules, as one number; the lent room is left as `make_book` leaves it. `pj_ask` hands on the contract of `ask`.
use Rattle.std.specs.Prelude.{◌≡◌, List, ℕ, Result}
use Rattle.sheet_words.specs.declared.Fault.{Fault}
use Rattle.sheet_rules.specs.Meaning.{rules_meaning}
use Rattle.sheet_book.specs.Book.{MakesBook}
use Rattle.exports.specs.Returned.{rules_returned}

-- the result and the room after the call, from the room before it
pub record RulesMade (rules old : List ℕ) (result : ℕ) (new : List ℕ) : Type 0 where
  pub answer : Result ℕ Fault
  pub makes : MakesBook (rules_meaning rules) old answer new
  pub result_is : result ≡ rules_returned answer
