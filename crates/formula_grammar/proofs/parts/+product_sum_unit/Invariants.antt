-- The cycle of the three readers meets its contracts. What is left of the text falls with each byte that is passed; at one place a sum calls a product and a
-- product a unit, so the measure is three times what is left, plus 2 for a sum and 1 for a product. Each return is a law of PartLaws or BrokenLaws.
use Prim.Native.Nat.{◌+◌, ◌-◌, ◌*◌}
use lib.ListN.{length}
use Rattle.formula_grammar.proofs.parts.+product_sum_unit.Given as goal

abbrev pub decreases-product : goal.decreases-product
decreases-product l = 3 * (length l.text.now - l.at) + 1

abbrev pub decreases-sum : goal.decreases-sum
decreases-sum l = 3 * (length l.text.now - l.at) + 2

abbrev pub decreases-unit : goal.decreases-unit
decreases-unit l = 3 * (length l.text.now - l.at)
