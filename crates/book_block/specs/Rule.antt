-- "Setting block: the table for post index q begins at byte 32 × q (look) and 32 × q + 16 (set)." The rule of a setting for a post is had from a
-- book by `rule` alone: how the book holds it is said here and nowhere else.
use Rattle.std.specs.Prelude.{ℕ, ◌+◌, ◌*◌, List, take, drop}
use Rattle.book_block.specs.declared.rule.Right.{Right}
use Rattle.book_block.specs.declared.rule.Right.TheVariants.{Look, Set}

-- "begins at byte 32 × q (look) and 32 × q + 16 (set)", in a setting's block
unfoldable pub table_place : ℕ → Right → ℕ
table_place q Look = 32 * q
table_place q Set = 32 * q + 16

-- "the table for post index q", 16 bytes, of a setting's block or of its tables in memory
unfoldable pub table : List ℕ → ℕ → Right → List ℕ
table bytes q right = take 16 (drop (table_place q right) bytes)

-- "one head, then one per setting in order": the byte of the book at which the table of setting i's rule begins
unfoldable pub rule_place : List ℕ → ℕ → ℕ → Right → ℕ
rule_place book i q right = 512 * (1 + i) + table_place q right

-- the table of the rule of setting i for the post with index q, in a book
unfoldable pub rule : List ℕ → ℕ → ℕ → Right → List ℕ
rule book i q right = take 16 (drop (rule_place book i q right) book)
