-- `knowledge_judging::judging::next` meets its contract: seven bits and one stay within a byte.
use Prim.Native.Nat.{◌-◌, ◌<◌}
use native.Mathlib.Omega.{arith}
use lib.Bits.{bit_or, or_lt}
use Rattle.knowledge_judging.proofs.judging.next.Goals as goal

pub overflow_add-result : goal.overflow_add-result
overflow_add-result c =
    let a = c.args in
    let small : bit_or a.some (127 - a.unknown) < 128 = or_lt 7 a.some (127 - a.unknown) c.requires.1 (omega arith) in
    omega (arith, small)
