-- `question_of` meets its contract: the length, and then the lines, over the nearest numbers of settings and posts.
use Rattle.std.proofs.Common.{◌∙◌, arith}
use Rattle.sheet_question.specs.Asked.{nothing_asked}
use Rattle.sheet_question.specs.Reads.{within}
use Rattle.sheet_question.proofs.ReadLaws.{refused-is, too_long, whole-read, clamped}
use Rattle.sheet_question.proofs.question_of.Goals as goal

pub returns-then-text-gt-TEXT_MOST : goal.returns-then-text-gt-TEXT_MOST
returns-then-text-gt-TEXT_MOST c =
    let x = c.args in
    refused-is (within 7 x.settings) (too_long x.before x.passes (within 7 x.settings) (within 8 x.posts) x.text.now c.if-text-gt-TEXT_MOST.true)

pub returns : goal.returns
returns c =
    let x = c.args in
    whole-read x.before x.passes x.settings x.posts x.text.now c.lines.result
    (c.clamp.ensures ∙ clamped 7 x.settings (omega arith)) (c.clamp-2.ensures ∙ clamped 8 x.posts (omega arith)) c.if-text-gt-TEXT_MOST.false
    (c.lines.ensures nothing_asked (c.nothing_asked.ensures c.clamp.result (omega arith) (omega arith)))
