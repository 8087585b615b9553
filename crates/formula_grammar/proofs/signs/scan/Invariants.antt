-- `scan` meets its contract. The loop has found no foreign byte among the first i.
use Rattle.formula_grammar.proofs.ScanLaws.{CleanTo}
use Rattle.formula_grammar.proofs.signs.scan.Given as goal

abbrev pub invariant-loop-i : goal.invariant-loop-i
invariant-loop-i l = CleanTo l.n l.text l.i
