-- `records_said` meets its contract: the records so far are said, and the rest is still to be judged.
use Rattle.std.proofs.Common.{ℕ, ◌+◌, ◌*◌, drop, arith, sym, ap, ◌∙◌}
use Rattle.station_text.specs.Meaning.{records_said}
use Rattle.station_text.proofs.BytesLaws.{said_turn, said_end}
use Rattle.station_text.proofs.bytes.records_said.Goals as goal

pub returns-then-not-is_record : goal.returns-then-not-is_record
returns-then-not-is_record c =
    let l = c.loop-count in
    omega (arith, l.invariant, said_turn c.args.shift.now (2 * l.count) (omega arith) (sym c.is_record.ensures ∙ c.if-not-is_record.true))

pub loop-count-preserved : goal.loop-count-preserved
loop-count-preserved c =
    let l = c.loop-count in
    let turn = said_turn c.args.shift.now (2 * l.count) (omega arith) (sym c.is_record.ensures ∙ c.if-not-is_record.false) in
    let next = ap (λ (i : ℕ). records_said (drop i c.args.shift.now)) {x = 2 * (l.count + 1)} {y = 2 * l.count + 2} (omega arith) in
    omega (arith, turn, next, l.invariant)

pub returns : goal.returns
returns c =
    let l = c.loop-count in
    omega (arith, l.invariant, said_end c.args.shift.now (2 * l.count) (omega arith))
