-- `book_block::stray::are_tables` meets its contract: std's `all` over the bytes of the tables that are there; 0 always fits.
use Rattle.std.proofs.Common.{◌+◌, ◌<◌, ◌≤◌, ◌^◌, drop, get_or, refl, arith, rules, ⊎_elim, get_or-drop}
use borrow.Author.Tests.{tests}
use Rattle.std.proofs.lemmas.Iterator.{YieldsList-from_range, cases_from_all}
use Rattle.std.proofs.lemmas.List.{length-drop}
use Rattle.book_block.specs.Live.{live, Clean}
use Rattle.ground.proofs.Answers.{tells_iff}
use Rattle.ground.proofs.Bools.{lt_or_ge}
use Rattle.book_block.proofs.EachLaws.{each_told}
use Rattle.book_block.proofs.StrayLaws.{tables-clean, clean-tables, dropped_small, past_fits}
use Rattle.book_block.proofs.stray.are_tables.Goals as goal

pub returns : goal.returns
unfolding Clean
returns c =
    let a = c.args in
    let tables = drop a.from a.bytes.now in
    let end = c.part_of-there.result in
    tells_iff c.all.result
    (λ each. clean-tables a.n a.m tables
    (λ j h. ⊎_elim
    (λ (l : j < end). rw get_or-drop (each j (omega arith) l))
    (λ (l : end ≤ j). past_fits tables j _ (omega (arith, length-drop a.from a.bytes.now, c.part_of-there.ensures)))
    (lt_or_ge j end)))
    (λ good j l h. rw (get_or-drop a.from a.bytes.now j 0) at
    (tables-clean a.n a.m tables (dropped_small _ a.from (λ k. (omega (arith, c.type_inv.bytes k)))) good j (omega (arith, c.part_of-there.ensures))))
    (each_told _ 0 end c.all.result
    (cases_from_all _ _ _ (λ j. get_or a.bytes.now (a.from + j) 0 < 2 ^ live a.n a.m j) (λ j. get_or a.bytes.now (a.from + j) 0 < 2 ^ live a.n a.m j → ⊥) c.all.ensures.ran
    (YieldsList-from_range 0 end _ refl refl)
    (λ x q k. search (rules, tests)) (λ x q k. search (rules, tests))))
