-- What `read` answers is settled: any two results that its contract allows are equal, the table or the refusal.
use mathlib.Core.Path.{◌≡◌, sym, ap, ◌∙◌}
use mathlib.Core.List.{List}
use Rattle.std.specs.Prelude.{Result, Ok, Err}
use Prim.Native.Nat.{ℕ}
use Rattle.ground.proofs.Table.{table_unique}
use Rattle.refusal.specs.declared.Refusal.{Refusal}
use Rattle.refusal.specs.Order.{Clear}
use Rattle.refusal.proofs.OrderLaws.{clear_none, clear-past, clear-lowest, first_unique, first-clear}
use Rattle.formula_grammar.proofs.Meaning.{unambiguous}
use Rattle.formula.specs.Read.{formula_rows, Accepts, ReadsFormula}

-- a text that is taken is not refused
pub accepts_clear : {n : ℕ} {s t : List ℕ} → Accepts n s t → Clear (formula_rows n s)
accepts_clear p = clear-past p.settings (clear-past p.size (clear-lowest p.clean (clear-lowest (λ i x. x.0 p.parsed) clear_none)))

pub read_unique : (n : ℕ) (s : List ℕ) (a b : Result (List ℕ) Refusal) → ReadsFormula n s a → ReadsFormula n s b → a ≡ b
read_unique n s (Ok t) (Ok u) p q =
    ap Ok (table_unique (λ v h. unambiguous p.parsed.sentence q.parsed.sentence (p.parsed.written ∙ sym q.parsed.written) v) p.table q.table)
read_unique n s (Ok t) (Err r) p q = first-clear q (accepts_clear p)
read_unique n s (Err r) (Ok t) p q = first-clear p (accepts_clear q)
read_unique n s (Err r) (Err x) p q = ap Err (first_unique p q)
