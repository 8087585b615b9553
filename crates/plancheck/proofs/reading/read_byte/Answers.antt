-- `read_byte` meets its contract: a stop, an act, or nothing.
use Rattle.std.proofs.Common.{arith}
use Rattle.knowledge.specs.Goal.{wanted as the_goal}
use Rattle.plancheck.proofs.ReadingLaws.{byte-stops, byte-unsettled, byte_act}
use Rattle.plancheck.proofs.reading.read_byte.Goals as goal

pub returns-then-is_settled : goal.returns-then-is_settled
returns-then-is_settled c =
    let a = c.args in
    byte-stops a.n a.book.now a.question (the_goal a.goal) a.k a.at a.byte
    c.requires.0 c.if-byte-eq0.true c.is_settled.ensures c.if-is_settled.true

pub returns-then-byte-eq0 : goal.returns-then-byte-eq0
returns-then-byte-eq0 c =
    let a = c.args in
    byte-unsettled a.n a.book.now a.question (the_goal a.goal) a.k a.at a.byte
    c.requires.0 c.if-byte-eq0.true c.is_settled.ensures c.if-is_settled.false

pub returns : goal.returns
returns c =
    let a = c.args in
    byte_act a.n a.book.now a.question (the_goal a.goal) a.k a.at a.byte
    c.if-byte-eq0.false (grind arith) c.read_act.ensures
