-- The rules of a written book are the rights': each is a table of its setting's block, which begins with the setting's tables.
use mathlib.Core.Path.{◌≡◌, ap, ◌∙◌}
use mathlib.Core.List.{List}
use Prim.Native.Nat.{ℕ, ◌+◌, ◌≤◌, ◌<◌}
use native.Mathlib.Omega.{arith}
use lib.ListN.{length}
use Rattle.book_block.specs.declared.rule.Right.{Right}
use Rattle.book_block.specs.Rule.{table_place, table, rule}
use Rattle.book_block.specs.Sealed.{setting_block}
use Rattle.book_sound.specs.Sound.{tables_of}
use Rattle.book.specs.Written.{book_of, Writable}
use Rattle.ground.proofs.Lists.{part_same}
use Rattle.book_block.proofs.BlockLaws.{length-setting, setting-byte}
use Rattle.book_block.proofs.RuleLaws.{place-most, rule-table}
use Rattle.book_sound.proofs.RightsLaws.{length-tables}
use Rattle.book.proofs.RoundTrip.{written-setting, written-sound}

-- a written book has the rules that the rights have
pub rule-written : {n m : ℕ} {rights : List ℕ} → Writable n m rights → (i q : ℕ) (right : Right) → i < n → q < 8
    → rule (book_of n m rights) i q right ≡ table (tables_of rights i) q right
unfolding table
rule-written {n} {m} {rights} good i q right hi hq =
    let fit : length (tables_of rights i) ≡ 256 = length-tables rights i (omega (arith, good.size)) in
    let u : table_place q right + 16 ≤ 256 = place-most q right hq in
    rule-table (book_of n m rights) i q right hq (omega (arith, (written-sound good).size))
    ∙ ap (λ b. table b q right) (written-setting good i hi)
    ∙ part_same (setting_block (tables_of rights i)) (tables_of rights i) (table_place q right) (table_place q right) 16
    (omega (arith, length-setting (tables_of rights i) fit)) (omega arith)
    (λ o k. setting-byte (tables_of rights i) fit (table_place q right + o) (omega arith))
