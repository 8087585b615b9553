-- `put` meets its contract: past the room's end `sets` changes nothing.
use Rattle.std.proofs.Common.{sym, ◌∙◌, rules}
use lib.Seq.{set_out}
use Rattle.print_room.proofs.put.Goals as goal

pub returns : goal.returns
returns c = record {
  room = elim c.if-to-out.branch [
    | goal.then-to-out w ↦ w.out-is
    | goal.else-to-out w ↦ w.out-is ∙ sym (set_out _ _ _ w.if-to-out.false)
  ];
  next_place = search rules;
}
