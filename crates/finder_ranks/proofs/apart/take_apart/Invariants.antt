-- `finder_ranks::apart::take_apart` meets its contract: the settings passed are taken apart, with a running power of 3.
use Prim.Native.Nat.{◌^◌}
use mathlib.Core.Path.{◌≡◌}
use Rattle.finder_ranks.specs.Apart.{Apart}
use Rattle.finder_ranks.proofs.apart.take_apart.Given as goal

abbrev pub invariant-loop-i : goal.invariant-loop-i
invariant-loop-i l = (l.three ≡ 3 ^ l.i) × Apart l.i l.k l.now l.start l.digits
