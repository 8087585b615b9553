-- One act on true settings: a changed setting is a digit of the valuation in base 2, and a rule is read where it stands in the book.
use mathlib.Core.Path.{◌≡◌, ap, ◌∙◌}
use mathlib.Core.Bool.{true, false}
use mathlib.Core.List.{List}
use Prim.Native.Nat.{ℕ, ◌+◌, ◌*◌, ◌-◌, ◌/◌, ◌%◌, ◌^◌, ◌≤◌, ◌<◌}
use native.Mathlib.Omega.{arith}
use lib.ListN.{length, take, drop, length-take}
use lib.Pow.{pow_mono}
use native.Mathlib.Nat.{min-le_left, one-mul, mod-eq_of_lt}
use Rattle.ground.specs.Digits.{digit}
use Rattle.ground.specs.Table.{truth}
use Rattle.ground.proofs.Digits.{put-sum}
use Rattle.ground.proofs.Table.{truth_out}
use Rattle.book_block.specs.Rule.{rule, rule_place}
use Rattle.book_block.specs.declared.rule.Right.{Right}
use Rattle.book_block.proofs.RuleLaws.{rule-truth}
use Rattle.knowledge_acts.specs.declared.act.Act.{Act}
use Rattle.knowledge_acts.specs.Acts.{setting_of, post_of}
use Rattle.plan.specs.Runs.{change}
use Rattle.station.specs.Station.{right_of, rule_of, allowed}
use Rattle.station.specs.Inner.{rule_at}

-- a bit of a byte, as code shifts one there
pub power_is : (i : ℕ) → i < 8 → 1 * 2 ^ i % 256 ≡ 2 ^ i
power_is i h = let small : 2 ^ i ≤ 2 ^ 7 = pow_mono {i = i} {j = 7} (omega arith) in ap (λ x. x % 256) (one-mul (2 ^ i)) ∙ mod-eq_of_lt (omega arith)

-- the valuation without setting i is what remains of it, and with it that and a power of 2
module _ (v i : ℕ) where
  pub bit-within : v / 2 ^ i % 2 * 2 ^ i ≤ v
  unfolding digit
  bit-within = omega (arith, put-sum {b = 2} (omega arith) v i 0)

  pub changed_off : v - v / 2 ^ i % 2 * 2 ^ i ≡ change v i false
  unfolding change digit
  changed_off = omega (arith, put-sum {b = 2} (omega arith) v i 0)

  pub changed_on : v - v / 2 ^ i % 2 * 2 ^ i + 2 ^ i ≡ change v i true
  unfolding change digit
  changed_on = omega (arith, put-sum {b = 2} (omega arith) v i 1, bit-within)

-- a rule tells nothing past its 128 valuations
pub rule-past : (book : List ℕ) (i q : ℕ) (right : Right) (v : ℕ) → 128 ≤ v → false ≡ truth (rule book i q right) v
unfolding rule
rule-past book i q right v h =
    let table = drop (rule_place book i q right) book in
    truth_out (take 16 table) 0 v (omega (arith, length-take 16 table, min-le_left 16 (length table)))

-- an act is allowed as its rule tells, where that stands in the book
pub allowed-there : (book : List ℕ) (v : ℕ) (a : Act) → v < 128 → truth (drop (rule_at book a) book) v ≡ allowed book v a
unfolding allowed rule_of rule_at
allowed-there book v a h = rule-truth book (setting_of a) (post_of a) (right_of a) v h

pub allowed-past : (book : List ℕ) (v : ℕ) (a : Act) → 128 ≤ v → false ≡ allowed book v a
unfolding allowed rule_of
allowed-past book v a h = rule-past book (setting_of a) (post_of a) (right_of a) v h
