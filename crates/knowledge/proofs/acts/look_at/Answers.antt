-- `knowledge::look_at` meets its contract: within the seven digits, those of the state after the look are those of its number.
use Rattle.knowledge.proofs.States.{look_number}
use Rattle.knowledge.proofs.acts.look_at.Goals as goal

pub returns-clause-number : goal.returns-clause-number
returns-clause-number c few seven =
    look_number c.args.k c.args.setting c.args.value few seven c.from_number.ensures c.after_look.ensures c.number.ensures
