-- What an act does on true settings, and what it does not: these laws shut out a set that is judged by the look rule, an act of a post that the book has not,
-- a set that changes another setting, a look that changes one, and a look that shows anything but the present value.
use mathlib.Core.Path.{◌≡◌, refl, ap}
use mathlib.Core.Bool.{Bool}
use mathlib.Core.List.{List}
use Prim.Native.Nat.{ℕ, ◌/◌, ◌%◌, ◌^◌, ◌<◌}
use native.Mathlib.Nat.{mod-lt}
use native.Mathlib.Omega.{arith}
use lib.Dec.{T, eqb, ltb, ltb→lt, lt→ltb}
use Rattle.ground.specs.Digits.{digit, bit}
use Rattle.ground.proofs.Bits.{below_2}
use Rattle.ground.specs.Table.{truth}
use Rattle.ground.proofs.Bools.{and_in, and_left, and_right}
use Rattle.book_block.specs.Rule.{rule}
use Rattle.book_block.specs.declared.rule.Right.TheVariants.{Look as look-rule, Set as set-rule}
use Rattle.knowledge_acts.specs.Acts.{setting_of, post_of}
use Rattle.knowledge_acts.specs.declared.act.Act.{Act}
use Rattle.knowledge_acts.specs.declared.act.Act.TheVariants.{Set, Look}
use Rattle.plan.proofs.Effects.{change-here, change-other, change_lt}
use Rattle.station.specs.Station.{of_book, rule_of, allowed, left_by, seen_as, shown}

-- an act of the book: its setting and its post are the book's, whoever is in a team
pub of_book_case : (n m : ℕ) (a : Act) → setting_of a < n → post_of a < m → T (of_book n m a)
unfolding of_book
of_book_case n m a h k = and_in (ltb (setting_of a) n) (ltb (post_of a) m) (lt→ltb (setting_of a) n h) (lt→ltb (post_of a) m k)

pub book_has : (n m : ℕ) (a : Act) → T (of_book n m a) → (setting_of a < n) × (post_of a < m)
unfolding of_book
book_has n m a t =
    (ltb→lt (setting_of a) n (and_left (ltb (setting_of a) n) (ltb (post_of a) m) t), ltb→lt (post_of a) m (and_right (ltb (setting_of a) n) (ltb (post_of a) m) t))

-- a set is judged by the set rule of its setting for its post, whatever value it sets; a look by the look rule
pub set-judged : (book : List ℕ) (v i q : ℕ) (b : Bool) → allowed book v (Set i q b) ≡ truth (rule book i q set-rule) v
unfolding allowed rule_of
set-judged book v i q b = refl

pub look_judged : (book : List ℕ) (v i q : ℕ) → allowed book v (Look i q) ≡ truth (rule book i q look-rule) v
unfolding allowed rule_of
look_judged book v i q = refl

-- a look shows the setting's own bit, 0 or 1; a set shows nothing
pub look_shows : (v i q : ℕ) → shown v (Look i q) ≡ v / 2 ^ i % 2
unfolding bit digit
look_shows v i q = below_2 (λ x. seen_as (eqb x 1) ≡ x) refl refl (v / 2 ^ i % 2) (mod-lt (v / 2 ^ i) (omega arith))

pub set_shows : (v i q : ℕ) (b : Bool) → shown v (Set i q b) ≡ 0
set_shows v i q b = refl

-- after a set a look shows the value that was set, and elsewhere what it would have shown before
pub set-shown : (v i p q : ℕ) (b : Bool) → shown (left_by v (Set i p b)) (Look i q) ≡ seen_as b
set-shown v i p q b = ap seen_as (change-here v i b)

pub set_others : (v i j p q : ℕ) (b : Bool) → (j ≡ i → ⊥) → shown (left_by v (Set i p b)) (Look j q) ≡ shown v (Look j q)
set_others v i j p q b h = ap seen_as (change-other v i j b h)

-- a look changes nothing
pub look_leaves : (v i p : ℕ) → left_by v (Look i p) ≡ v
look_leaves v i p = refl

-- an act of n settings leaves a valuation of n settings
pub left_lt : (v n : ℕ) (a : Act) → v < 2 ^ n → setting_of a < n → left_by v a < 2 ^ n
left_lt v n (Set i q b) h l = change_lt v i n b h l
left_lt v n (Look i q) h l = h
