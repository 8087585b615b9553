-- `digit_count` meets its contract: the bytes that it counts are the digits in front.
use Rattle.std.proofs.Common.{rules, ◌∙◌}
use borrow.Author.Tests.{tests}
use Rattle.std.proofs.lemmas.Iterator.{YieldsList-from_slice}
use Rattle.std.proofs.lemmas.Iterator.Search.{YieldsList-from_take_while}
use Rattle.std.proofs.lemmas.Iterator.Consumers.{count_from_yields_List}
use Rattle.std.proofs.lemmas.List.Folds.{length-prefix_len}
use Rattle.sheet_words.specs.Words.{among}
use Rattle.plancheck_text.proofs.LineLaws.{digits_first}
use Rattle.plancheck_text.proofs.line.digit_count.Goals as goal

pub returns : goal.returns
returns c =
    let s = c.args.text.now in
    count_from_yields_List c.take_while.result _ c.count.ensures.ran
    (YieldsList-from_take_while _ (λ x. among 48 10 x) (YieldsList-from_slice s cc) c.take_while.ensures.closure c.take_while.ensures.done
    (λ x b q k. search (rules, tests)))
    ∙ length-prefix_len (λ x. among 48 10 x) s ∙ digits_first s
