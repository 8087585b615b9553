-- What is promised of a block: what each public function gives is one alone; and the marked checks.
use Rattle.std.proofs.Common.{◌≡◌, ℕ, Bool, true, false, List, drop, replicate, sym, refl, ◌∙◌}
use Rattle.book_block.specs.declared.sums.Sums.{Sums}
use Rattle.book_block.specs.Check.{check, sums_after, added}
use Rattle.book_block.specs.declared.rule.Right.{Right}
use Rattle.book_block.specs.Rule.{table_place, rule_place}
use Rattle.book_block.specs.Sealed.{sealed_at}
use Rattle.ground.specs.Tells.{Tells}

-- `check_of`
pub check-one : (bytes : List ℕ) (from : ℕ) (a b : Sums) → a ≡ check (drop from bytes) → b ≡ check (drop from bytes) → a ≡ b
check-one bytes from a b p q = p ∙ sym q

-- `table_at` and `rule_at`
pub table-at-one : (post : ℕ) (right : Right) (a b : ℕ) → a ≡ table_place post right → b ≡ table_place post right → a ≡ b
table-at-one post right a b p q = p ∙ sym q

pub rule-at-one : (book : List ℕ) (setting post : ℕ) (right : Right) (a b : ℕ) → a ≡ rule_place book setting post right
    → b ≡ rule_place book setting post right → a ≡ b
rule-at-one book setting post right a b p q = p ∙ sym q

-- `is_right`, `are_zeros`, `are_tables` and `is_setting`: two answers that tell of one thing
pub answer-one : (A : Type 0) (r s : Bool) → Tells r A → Tells s A → r ≡ s
answer-one A true true a b = refl
answer-one A true false a b = absurd (b a)
answer-one A false true a b = absurd (a b)
answer-one A false false a b = refl

-- `seal`: all of the room
pub seal_one : (room : List ℕ) (at : ℕ) (a b : List ℕ) → a ≡ sealed_at room at → b ≡ sealed_at room at → a ≡ b
seal_one room at a b p q = p ∙ sym q

-- ---- P13

-- "check of 508 zero bytes: 1 and 508; of 508 bytes 255: 64005 and 3830"
pub p13_zeros : check (replicate 508 0) ≡ record { s = 1; t = 508 }
unfolding check sums_after added
p13_zeros = refl

pub p13_ones : check (replicate 508 255) ≡ record { s = 64005; t = 3830 }
unfolding check sums_after added
p13_ones = refl
