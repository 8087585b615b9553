-- `check_sound` meets its contract: a refusal is said as it was read, and what is asked is on the desk.
use Rattle.sheet_ask.proofs.AskLaws.{stated-learnt}
use Rattle.sheet_check.proofs.CheckLaws.{question_refused, question_asked}
use Rattle.sheet_check.proofs.check_sound.Goals as goal

pub check_text-requires : goal.check_text-requires
check_text-requires c = stated-learnt c.requires c.args.question.now c.in-Ok.asked c.in-Ok.ensures

pub returns-in-Err : goal.returns-in-Err
returns-in-Err c = question_refused c.requires c.args.question.now c.args.plan.now c.in-Err.fault c.in-Err.ensures

pub returns-in-Ok : goal.returns-in-Ok
returns-in-Ok c = question_asked c.requires c.args.question.now c.args.plan.now c.in-Ok.asked c.in-Ok.ensures _ c.check_text.ensures
