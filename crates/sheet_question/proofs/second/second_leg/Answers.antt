-- `second_leg` meets its contract: the length, and then the lines, over the nearest numbers of settings and posts.
use Rattle.std.proofs.Common.{◌∙◌, arith}
use Rattle.sheet_question.specs.Reads.{within}
use Rattle.sheet_question.proofs.ReadLaws.{refused-is, clamped}
use Rattle.sheet_question.proofs.SecondLaws.{second_too_long, second-read}
use Rattle.sheet_question.proofs.second.second_leg.Goals as goal

pub returns-then-text-gt-TEXT_MOST : goal.returns-then-text-gt-TEXT_MOST
returns-then-text-gt-TEXT_MOST c =
    let x = c.args in
    refused-is (within 7 x.settings) (second_too_long x.before (within 7 x.settings) (within 8 x.posts) x.text.now c.if-text-gt-TEXT_MOST.true)

pub returns : goal.returns
returns c =
    let x = c.args in
    second-read x.before x.settings x.posts x.text.now c.second_lines.result
    (c.clamp.ensures ∙ clamped 7 x.settings (omega arith)) (c.clamp-2.ensures ∙ clamped 8 x.posts (omega arith)) c.if-text-gt-TEXT_MOST.false
    c.second_lines.ensures
