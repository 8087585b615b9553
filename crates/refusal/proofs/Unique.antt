-- A refusal's numbers are settled: any two that the contract of `numbers` allows are equal. The theorem speaks of the function's own contract, as the
-- check reads it, `Post`; nothing is lent.
use mathlib.Core.Path.{◌≡◌, sym, ◌∙◌}
use Rattle.refusal.proofs.Refusal.numbers.Reads as numbers

pub numbers_unique : (κs : _) (a : _) (x y : _) (s : _) → numbers.Post κs a x s → numbers.Post κs a y s → x ≡ y
numbers_unique κs a x y s p q = p ∙ sym q
