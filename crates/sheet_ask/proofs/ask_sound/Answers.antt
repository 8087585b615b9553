-- `ask_sound` meets its contract: a refusal is printed as it was read, with its line, and what is asked is answered, with one leg or with two.
use Rattle.std.proofs.Common.{ap}
use Rattle.refusal.specs.declared.Numbers.{Numbers}
use Rattle.sheet_ask.proofs.LegLaws.{one-learnt, one-valid, one-prints, two-learnt, two-valid, two-prints, refused-prints}
use Rattle.sheet_ask.proofs.ask_sound.Goals as goal

pub answered-requires : goal.answered-requires
answered-requires c =
    let s = c.args.question.now in
    (one-learnt c.requires s c.in-Ok.legs c.in-Ok.ensures c.in-None.is, (c.args.settings, c.args.posts, one-valid c.requires s c.in-Ok.legs c.in-Ok.ensures c.in-None.is))

pub answered_two-requires : goal.answered_two-requires
answered_two-requires c =
    let s = c.args.question.now in
    let learnt = two-learnt c.requires s c.in-Ok.legs c.in-Ok.ensures c.in-Some.is in
    (learnt.0, learnt.1, (c.args.posts, two-valid c.requires s c.in-Ok.legs c.in-Ok.ensures c.in-Some.is))

pub returns-in-Err : goal.returns-in-Err
returns-in-Err c =
    refused-prints c.requires c.args.question.now _ _ _ _ c.in-Err.fault _ c.in-Err.ensures (ap (λ (k : Numbers). k.number) c.numbers.ensures) c.refused.ensures

pub returns-in-None : goal.returns-in-None
returns-in-None c =
    let s = c.args.question.now in
    one-prints c.requires s c.in-Ok.legs c.in-Ok.ensures c.in-None.is _ _ _ _ _ (c.answered.ensures _ _ (one-valid c.requires s c.in-Ok.legs c.in-Ok.ensures c.in-None.is))

pub returns-in-Some : goal.returns-in-Some
returns-in-Some c = two-prints c.requires c.args.question.now c.in-Ok.legs c.in-Ok.ensures c.in-Some.is _ _ _ _ _ c.answered_two.ensures
