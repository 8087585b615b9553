-- `knowledge::set_to` meets its contract: within the seven digits, those of the state after the set are those of its number.
use Rattle.knowledge.proofs.States.{set-number}
use Rattle.knowledge.proofs.acts.set_to.Goals as goal

pub returns-clause-number : goal.returns-clause-number
returns-clause-number c few seven =
    set-number c.args.k c.args.setting c.args.value few seven c.from_number.ensures c.after_set.ensures c.number.ensures
