-- `from_start` meets its contract: by the entry of the start, the length of the plan written from it, and its bytes.
use mathlib.Core.Path.{refl}
use native.Mathlib.Omega.{arith}
use Rattle.finder.specs.Tables.{Ranked}
use Rattle.finder.proofs.StartLaws.{no_rank, room_start, reached}
use Rattle.finder.proofs.answer.from_start.Goals as goal

pub returns-then-height : goal.returns-then-height
returns-then-height c = λ S t. (no_rank t c.requires.0 c.if-height.true, refl)

pub write-requires : goal.write-requires
write-requires c =
    let ranked : Ranked c.args.n c.args.set.now c.args.look.now c.args.ranks.now c.args.start =
    let pre = c.requires in record {
      few = pre.2.1.few;
      state = pre.0;
      size = pre.1;
      finite = omega (arith, c.type_inv.ranks c.args.start);
      system = pre.2.0;
      told = pre.2.1;
    } in
    (ranked, room_start c.length-bytes.ensures.1 _ c.if-plan-bytes.false)

pub returns : goal.returns
returns c =
    let ranked : Ranked c.args.n c.args.set.now c.args.look.now c.args.ranks.now c.args.start =
    let pre = c.requires in record {
      few = pre.2.1.few;
      state = pre.0;
      size = pre.1;
      finite = omega (arith, c.type_inv.ranks c.args.start);
      system = pre.2.0;
      told = pre.2.1;
    } in
    reached c.length-bytes.ensures.1 c.requires.0 (ranked).finite c.if-plan-bytes.false c.write.ensures
