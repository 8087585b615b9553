-- `book_block::bytes::are_zeros` meets its contract: std's `all` over the places from `first` up to `end`.
use Rattle.std.proofs.Common.{◌≡◌, ◌+◌, get_or, refl, sym, ◌∙◌, rules, get_or-drop}
use borrow.Author.Tests.{tests}
use Rattle.std.proofs.lemmas.Iterator.{YieldsList-from_range, cases_from_all}
use Rattle.ground.proofs.Answers.{tells_iff}
use Rattle.book_block.specs.Kinds.{Zeros}
use Rattle.book_block.proofs.EachLaws.{each_told}
use Rattle.book_block.proofs.bytes.are_zeros.Goals as goal

pub returns : goal.returns
unfolding Zeros
returns c =
    let a = c.args in
    tells_iff c.all.result
    (λ each j l h. get_or-drop a.from a.bytes.now j 0 ∙ each j l h)
    (λ zeros j l h. sym (get_or-drop a.from a.bytes.now j 0) ∙ zeros j l h)
    (each_told _ a.first a.end c.all.result
    (cases_from_all _ _ _ (λ j. get_or a.bytes.now (a.from + j) 0 ≡ 0) (λ j. get_or a.bytes.now (a.from + j) 0 ≡ 0 → ⊥) c.all.ensures.ran
    (YieldsList-from_range a.first a.end _ refl refl)
    (λ x q k. search (rules, tests)) (λ x q k. search (rules, tests))))
