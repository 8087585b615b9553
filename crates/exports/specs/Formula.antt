-- `pj_formula_read`: what the formula reader answers, as one number; a refusal leaves the 16 lent bytes as they were.
use Rattle.std.specs.Prelude.{◌≡◌, List, ℕ, Result, Ok, Err}
use Rattle.refusal.specs.declared.Refusal.{Refusal}
use Rattle.formula.specs.Read.{ReadsFormula}
use Rattle.exports.specs.Returned.{formula_returned}

-- what the lent bytes hold on return, from the answer and from what they held
abbrev pub on_return : Result (List ℕ) Refusal → List ℕ → List ℕ
on_return (Ok table) old = table
on_return (Err r) old = old

-- the result and the 16 bytes after the call, from the 16 bytes before it
pub record FormulaRead (n : ℕ) (s old : List ℕ) (result : ℕ) (new : List ℕ) : Type 0 where
  pub answer : Result (List ℕ) Refusal
  pub reads : ReadsFormula n s answer
  pub result_is : result ≡ formula_returned answer
  pub new_is : new ≡ on_return answer old
