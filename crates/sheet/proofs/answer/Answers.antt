-- `answer` meets its contract: a refusal is printed as it was read, and a whole sheet is asked.
use Rattle.std.proofs.Common.{ap}
use Rattle.refusal.specs.declared.Numbers.{Numbers}
use Rattle.sheet.proofs.AnswerLaws.{stated-whole, stated-answers, refused-answers}
use Rattle.sheet.proofs.answer.Goals as goal

pub ask-requires : goal.ask-requires
ask-requires c = stated-whole c.args.sheet.now c.in-Ok.desk c.in-Ok.ensures

pub returns-in-Err : goal.returns-in-Err
returns-in-Err c =
    refused-answers c.args.sheet.now _ _ _ c.in-Err.fault _ c.in-Err.ensures (ap (λ (n : Numbers). n.number) c.numbers.ensures) c.refused.ensures

pub returns-in-Ok : goal.returns-in-Ok
returns-in-Ok c = stated-answers c.args.sheet.now _ _ _ c.in-Ok.desk c.in-Ok.ensures c.ask.ensures
