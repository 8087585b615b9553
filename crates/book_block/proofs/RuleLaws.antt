-- Where a rule's table stands: within its setting's tables, so the rule of a book is a table of its setting's block.
use Rattle.std.proofs.Common.{◌≡◌, ℕ, ◌+◌, ◌*◌, ◌/◌, ◌%◌, ◌<◌, ◌≤◌, List, length, get_or, take, drop, sym, ap, ◌∙◌, add_assoc, arith, get_or-take}
use Rattle.book_block.specs.Check.{block}
use Rattle.book_block.specs.declared.rule.Right.{Right}
use Rattle.book_block.specs.declared.rule.Right.TheVariants.{Look, Set}
use Rattle.book_block.specs.Rule.{table_place, table, rule_place, rule}
use Rattle.ground.specs.Digits.{bit}
use Rattle.ground.specs.Table.{truth}
use Rattle.ground.proofs.Lists.{get_d_part, length_part, part_same}

-- a table ends within its setting's 256 table bytes
pub place-most : (q : ℕ) (right : Right) → q < 8 → table_place q right + 16 ≤ 256
unfolding table_place
place-most q Look h = omega arith
place-most q Set h = omega arith

-- and for any post of a byte it begins below 2^14
pub place-small : (q : ℕ) (right : Right) → q < 256 → table_place q right < 16384
unfolding table_place
place-small q Look h = omega arith
place-small q Set h = omega arith

-- the rule of setting i is a table of block 1 + i
pub rule-table : (book : List ℕ) (i q : ℕ) (right : Right) → q < 8 → 512 * (2 + i) ≤ length book → rule book i q right ≡ table (block book (1 + i)) q right
unfolding rule rule_place table block
rule-table book i q right h l =
    let u : table_place q right + 16 ≤ 256 = place-most q right h in
    let a : length (take 512 (drop (512 * (1 + i)) book)) ≡ 512 = length_part book (512 * (1 + i)) 512 (omega arith) in
    part_same book (take 512 (drop (512 * (1 + i)) book)) (512 * (1 + i) + table_place q right) (table_place q right) 16 (omega arith) (omega arith)
    (λ o k.
    ap (λ n. get_or book n 0) (add_assoc (512 * (1 + i)) (table_place q right) o)
    ∙ sym (get_d_part book (512 * (1 + i)) 512 (table_place q right + o) (omega arith)))

-- what a rule says at a valuation stands at its place in the book
pub rule-truth : (book : List ℕ) (i q : ℕ) (right : Right) (v : ℕ) → v < 128
    → truth (drop (rule_place book i q right) book) v ≡ truth (rule book i q right) v
unfolding rule truth
rule-truth book i q right v h =
    ap (λ (x : ℕ). bit x (v % 8)) (sym (get_or-take 16 (drop (rule_place book i q right) book) (v / 8) 0 (omega arith)))
