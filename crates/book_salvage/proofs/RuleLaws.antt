-- The rules of a salvaged book: those of a block that stayed are the book's, and those of a closed block are zeros.
use mathlib.Core.Path.{◌≡◌, sym, ap, ◌∙◌, subst}
use mathlib.Core.Bool.{true, false}
use mathlib.Core.List.{List}
use Prim.Native.Nat.{ℕ, ◌+◌, ◌*◌, ◌≤◌, ◌<◌}
use native.Mathlib.Omega.{arith}
use lib.ListN.{length, take, drop, replicate, length-replicate, get_or-replicate}
use lib.Seq.{ext_get_or}
use Rattle.ground.specs.Digits.{bit}
use Rattle.ground.proofs.Lists.{get_d_part, length_part}
use Rattle.book_block.specs.declared.rule.Right.{Right}
use Rattle.book_block.specs.Rule.{table_place, table, rule}
use Rattle.book_block.proofs.RuleLaws.{place-most, rule-table}
use Rattle.book_salvage.specs.Salvaged.{closed_block, setting_after, salvaged_book}
use Rattle.book_salvage.proofs.LaidLaws.{length_closed, closed_byte, after-marked, after_unmarked, length_salvaged, salvaged_setting}

-- a table of the closed block
closed_table : (q : ℕ) (right : Right) → q < 8 → table closed_block q right ≡ replicate 16 0
unfolding table
closed_table q right hq =
    let u : table_place q right + 16 ≤ 256 = place-most q right hq in
    let l : length (take 16 (drop (table_place q right) closed_block)) ≡ 16 = length_part closed_block (table_place q right) 16 (omega (arith, length_closed)) in
    ext_get_or 0 _ _ (l ∙ sym (length-replicate {A = ℕ} 16 0))
    (λ o k.
    let low : o < 16 = subst (λ n. o < n) l k in
    get_d_part closed_block (table_place q right) 16 o low ∙ closed_byte (table_place q right + o) (omega arith) ∙ sym (get_or-replicate 16 o 0 0 low))

module _ (book : List ℕ) (marks n : ℕ) (size : 512 * (1 + n) ≤ length book) (i q : ℕ) (right : Right) (setting : i < n) (post : q < 8) where
  rule-after : rule (salvaged_book book marks n) i q right ≡ table (setting_after book marks i) q right
  rule-after =
      rule-table (salvaged_book book marks n) i q right post (omega (arith, length_salvaged book marks n size))
      ∙ ap (λ (b : List ℕ). table b q right) (salvaged_setting book marks n size i setting)

  pub rule-kept : bit marks i ≡ false → rule (salvaged_book book marks n) i q right ≡ rule book i q right
  rule-kept e =
      rule-after
      ∙ ap (λ (b : List ℕ). table b q right) (after_unmarked book marks i e)
      ∙ sym (rule-table book i q right post (omega arith))

  pub rule_closed : bit marks i ≡ true → rule (salvaged_book book marks n) i q right ≡ replicate 16 0
  rule_closed e = rule-after ∙ ap (λ (b : List ℕ). table b q right) (after-marked book marks i e) ∙ closed_table q right post
