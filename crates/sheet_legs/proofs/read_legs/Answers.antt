-- `read_legs` meets its contract: the length, and then the legs, by where the line `then` is.
use Rattle.std.proofs.Common.{sym, subst}
use Rattle.refusal.specs.declared.Refusal.TheVariants.{SheetLength}
use Rattle.sheet_question.specs.Reads.{within}
use Rattle.sheet_legs.specs.Legs.{LegsMeaning}
use Rattle.sheet_legs.specs.Reads.{ReadsLegs}
use Rattle.sheet_legs.proofs.CutLaws.{legs_too_long, no_then}
use Rattle.sheet_legs.proofs.LegLaws.{legs_refused, legs_parted}
use Rattle.sheet_legs.proofs.read_legs.Goals as goal

pub returns-then-text-gt-TEXT_MOST : goal.returns-then-text-gt-TEXT_MOST
returns-then-text-gt-TEXT_MOST c =
    let x = c.args in
    legs_refused (within 7 x.settings) (record { why = SheetLength; line = 0 })
    (legs_too_long (within 7 x.settings) (within 8 x.posts) x.text.now c.if-text-gt-TEXT_MOST.true)

pub returns-in_default : goal.returns-in_default
returns-in_default c =
    let x = c.args in
    let n = within 7 x.settings in
    subst (λ (o : LegsMeaning). ReadsLegs n o c.one_leg.result) (sym (no_then n (within 8 x.posts) x.text.now c.in_default.ensures)) c.one_leg.ensures

pub returns : goal.returns
returns c =
    let x = c.args in
    let n = within 7 x.settings in
    subst (λ (o : LegsMeaning). ReadsLegs n o c.two_legs.result)
    (legs_parted n (within 8 x.posts) x.text.now c.in-Some.then c.in-Some.ensures c.if-text-gt-TEXT_MOST.false) c.two_legs.ensures
