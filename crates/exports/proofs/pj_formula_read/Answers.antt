-- `pj_formula_read` meets its contract: the answer is the reader's, and only a table is stored.
use mathlib.Core.Path.{sym, ap, ◌∙◌}
use mathlib.Core.List.{List}
use Prim.Native.Nat.{ℕ}
use Rattle.std.specs.Prelude.{Result}
use Rattle.refusal.specs.declared.Refusal.{Refusal}
use Rattle.exports.specs.Returned.{formula_returned}
use Rattle.exports.specs.Formula.{on_return}
use Rattle.exports.proofs.pj_formula_read.Goals as goal

pub returns-in-Ok : goal.returns-in-Ok
returns-in-Ok c =
    let is = c.in-Ok.is in
    record {
      answer = c.read.result;
      reads = c.read.ensures;
      result_is = sym (ap formula_returned is);
      new_is = sym (ap (λ (a : Result (List ℕ) Refusal). on_return a c.args.table.now) is);
    }

pub returns-in-Err : goal.returns-in-Err
returns-in-Err c =
    let is = c.in-Err.is in
    record {
      answer = c.read.result;
      reads = c.read.ensures;
      result_is = c.packed.ensures ∙ sym (ap formula_returned is);
      new_is = sym (ap (λ (a : Result (List ℕ) Refusal). on_return a c.args.table.now) is);
    }
