-- `ask_sound` meets its contract: a refusal is said as it was read, and what is asked is answered.
use Rattle.sheet_ask.specs.Inner.{learn_in}
use Rattle.sheet_ask.proofs.AskLaws.{stated-learnt}
use Rattle.sheet_plain.proofs.AskLaws.{question_refused, says, never-refused}
use Rattle.sheet_plain.proofs.ask_sound.Goals as goal

pub goal-requires : goal.goal-requires
goal-requires c = (stated-learnt c.requires c.args.question.now c.in-Ok.asked c.in-Ok.ensures).1

pub unwrap-requires : goal.unwrap-requires
unfolding learn_in
unwrap-requires c = never-refused c.requires c.args.question.now c.in-Ok.asked c.in-Ok.ensures _ (rw c.goal.ensures at c.find-found.ensures)

pub returns-in-Ok : goal.returns-in-Ok
unfolding learn_in
returns-in-Ok c = says c.requires c.args.question.now c.in-Ok.asked c.in-Ok.ensures _ (rw (c.goal.ensures, c.unwrap.ensures) at c.find-found.ensures)

pub returns-in-Err : goal.returns-in-Err
returns-in-Err c = question_refused c.requires c.args.question.now c.in-Err.fault c.in-Err.ensures
