-- The question that a sheet states, computed: the tables of its formulas, the masks of what it names. A test says that it is the one that is asked.
use mathlib.Core.Path.{◌≡◌, refl, ap, ◌∙◌}
use mathlib.Core.Logic.{inl, inr}
use mathlib.Core.List.{List, [], ◌∷◌, ◌++◌}
use mathlib.Core.Bool.{Bool, true, false, ◌&&◌, ◌||◌}
use Prim.Native.Nat.{ℕ, ◌*◌, ◌^◌, ◌%◌, ◌≤◌, ◌<◌}
use native.Mathlib.Omega.{arith}
use lib.Bits.{bit_or}
use lib.Dec.{T, eqb, ltb, eqb→eq, ltb→lt}
use lib.ListN.{length, replicate}
use Rattle.ground.specs.Digits.{bit}
use Rattle.ground.specs.Search.{all}
use Rattle.ground.proofs.Bits.{bit_of_zero}
use Rattle.ground.proofs.Bools.{and_left, and_right, or_out}
use Rattle.ground.proofs.Search.{all-at}
use Rattle.formula.specs.Read.{Accepts}
use Rattle.book_block.specs.Rule.{table, table_place}
use Rattle.book_block.specs.declared.rule.Right.{Right}
use Rattle.book_block.specs.declared.rule.Right.TheVariants.{Look, Set}
use Rattle.book_sound.specs.Sound.{in_order, tables_of}
use Rattle.knowledge.specs.Goal.{Goal, goal_of}
use Rattle.plan.proofs.States.{each}
use Rattle.question.specs.declared.Question.{Question}
use Rattle.sheet_words.specs.Words.{member}
use Rattle.sheet_words.proofs.NameLaws.{with_bit}
use Rattle.sheet_rules.specs.Rules.{same_right, concerns, unstated, rule_text}
use Rattle.sheet_question.specs.Asked.{known_settings, known_true, held_settings}
use Rattle.sheet_question.specs.Desk.{TablesOf}
use Rattle.sheet_reading.specs.Sheet.{Sheet}
use Rattle.sheet.specs.Answer.{SheetAsks}
use Rattle.marked.proofs.Tests.{every, pick, same, same_out}
use Rattle.marked.proofs.Formulas.{table_of, takes, taken}

-- ---- masks

-- a bit for each of some numbers below 8
unfoldable pub mask : List ℕ → ℕ
mask [] = 0
mask (x ∷ xs) = bit_or (mask xs) (1 * 2 ^ x % 256)

abbrev small : List ℕ → Bool
small xs = each (λ x. ltb x 8) xs

swap : (a b : Bool) → (a || b) ≡ (b || a)
swap true true = refl
swap true false = refl
swap false true = refl
swap false false = refl

mask_bits : (xs : List ℕ) → T (small xs) → (p : ℕ) → bit (mask xs) p ≡ member p xs
unfolding mask each member
mask_bits [] h p = bit_of_zero p
mask_bits (x ∷ xs) h p =
    with_bit (mask xs) x p (ltb→lt x 8 (and_left (ltb x 8) (small xs) h))
    ∙ ap (λ (b : Bool). b || eqb x p) (mask_bits xs (and_right (ltb x 8) (small xs) h) p)
    ∙ swap (member p xs) (eqb x p)

-- ---- tables

by_right : (P : Right → Type 0) → P Look → P Set → (right : Right) → P right
by_right P a b Look = a
by_right P a b Set = b

-- of a right: zeros for a post that does not exist
unfoldable right-table : Sheet → Right → ℕ → ℕ → List ℕ
unfolding table_of rule_text unstated concerns same_right
right-table s right i q = elim (ltb q s.size.posts) [
  | true ↦ table_of s.size.settings (rule_text s.rules right i q)
  | false ↦ replicate 16 0
]

-- the rights in memory
unfoldable pub rights_in : Sheet → List ℕ
unfolding in_order right-table
rights_in s = in_order (λ i. in_order (λ q. right-table s Look i q ++ right-table s Set i q) 8) s.size.settings

-- of formulas, one after the other
unfoldable pub tables_in : ℕ → List (List ℕ) → List ℕ
unfolding table_of
tables_in n [] = []
tables_in n (F ∷ Fs) = table_of n F ++ tables_in n Fs

-- ---- the question

abbrev pub question_in : Sheet → Question
question_in s = record {
  team = mask s.asked.team;
  known = mask (known_settings s.asked.known);
  values = mask (known_true s.asked.known);
  held = mask (held_settings s.asked.held);
}

abbrev pub goal_in : Sheet → Goal
goal_in s = goal_of (table_of s.size.settings s.asked.make) (tables_in s.size.settings s.asked.asks)

-- ---- the test

-- each right has the table of its text
abbrev ruled : Sheet → List ℕ → Right → Bool
ruled s R right =
    all s.size.settings (λ i. all s.size.posts (λ q. takes s.size.settings (rule_text s.rules right i q) (table (tables_of R i) q right)))

-- zeros for a post that does not exist
abbrev empty : Sheet → List ℕ → Right → Bool
empty s R right = all s.size.settings (λ i. all 8 (λ q. ltb q s.size.posts || same (table (tables_of R i) q right) (replicate 16 0)))

unfoldable pub each-taken : ℕ → List (List ℕ) → Bool
unfolding takes table_of
each-taken n [] = true
each-taken n (F ∷ Fs) = takes n F (table_of n F) && each-taken n Fs

abbrev tests : Sheet → List ℕ → List Bool
tests s R =
    eqb (length R) (256 * s.size.settings)
    ∷ ruled s R Look
    ∷ ruled s R Set
    ∷ empty s R Look
    ∷ empty s R Set
    ∷ takes s.size.settings s.asked.make (table_of s.size.settings s.asked.make)
    ∷ each-taken s.size.settings s.asked.asks
    ∷ small s.asked.team
    ∷ small (known_settings s.asked.known)
    ∷ small (known_true s.asked.known)
    ∷ small (held_settings s.asked.held)
    ∷ []

-- it is the question that the sheet asks (who names it on an `unfolding` line unfolds all of it, so that the test computes)
unfoldable pub asks_so : Sheet → Bool
unfolding every same each all takes table_of rights_in tables_in each-taken mask table table_place tables_of rule_text unstated concerns same_right known_settings known_true
asks_so s = every (tests s (rights_in s))

module _ (s : Sheet) (R : List ℕ) where
  taken_at : (right : Right) → T (ruled s R right) → (i q : ℕ) → i < s.size.settings → q < s.size.posts
      → Accepts s.size.settings (rule_text s.rules right i q) (table (tables_of R i) q right)
  taken_at right h i q hi hq =
      let n : ℕ = s.size.settings in
      taken n (rule_text s.rules right i q) (table (tables_of R i) q right)
      (all-at s.size.posts (λ q. takes n (rule_text s.rules right i q) (table (tables_of R i) q right))
      (all-at n (λ i. all s.size.posts (λ q. takes n (rule_text s.rules right i q) (table (tables_of R i) q right))) h i hi) q hq)

  empty_at : (right : Right) → T (empty s R right) → (i q : ℕ) → i < s.size.settings → s.size.posts ≤ q → q < 8 → table (tables_of R i) q right ≡ replicate 16 0
  empty_at right h i q hi past hq =
      let m : ℕ = s.size.posts in
      let zeros : Bool = same (table (tables_of R i) q right) (replicate 16 0) in
      elim (or_out (ltb q m) zeros
      (all-at 8 (λ q. ltb q m || same (table (tables_of R i) q right) (replicate 16 0))
      (all-at s.size.settings (λ i. all 8 (λ q. ltb q m || same (table (tables_of R i) q right) (replicate 16 0))) h i hi) q hq)) [
        | inl x ↦ absurd (omega (arith, ltb→lt q m x))
        | inr x ↦ same_out (table (tables_of R i) q right) (replicate 16 0) x
      ]

tables-taken : (n : ℕ) (Fs : List (List ℕ)) → T (each-taken n Fs) → TablesOf n Fs (tables_in n Fs)
unfolding each-taken tables_in
tables-taken n [] h = refl
tables-taken n (F ∷ Fs) h =
    let a : Bool = takes n F (table_of n F) in
    let b : Bool = each-taken n Fs in
    (table_of n F, tables_in n Fs, taken n F (table_of n F) (and_left a b h), tables-taken n Fs (and_right a b h), refl)

pub asks : (s : Sheet) → T (asks_so s) → SheetAsks s (rights_in s) (question_in s) (goal_in s)
unfolding asks_so
asks s h =
    let R : List ℕ = rights_in s in
    let n : ℕ = s.size.settings in
    let t : List Bool = tests s R in
    let F : List ℕ = s.asked.make in
    record {
      size = eqb→eq (length R) (256 * n) (pick t 0 h);
      rules = λ right. by_right (λ (r : Right). (i q : ℕ) → i < n → q < s.size.posts → Accepts n (rule_text s.rules r i q) (table (tables_of R i) q r))
          (taken_at s R Look (pick t 1 h)) (taken_at s R Set (pick t 2 h)) right;
      nobody = λ right. by_right (λ (r : Right). (i q : ℕ) → i < n → s.size.posts ≤ q → q < 8 → table (tables_of R i) q r ≡ replicate 16 0)
          (empty_at s R Look (pick t 3 h)) (empty_at s R Set (pick t 4 h)) right;
      made = taken n F (table_of n F) (pick t 5 h);
      learnt = tables-taken n s.asked.asks (pick t 6 h);
      posts = mask_bits s.asked.team (pick t 7 h);
      settings_known = mask_bits (known_settings s.asked.known) (pick t 8 h);
      settings_true = mask_bits (known_true s.asked.known) (pick t 9 h);
      settings_held = mask_bits (held_settings s.asked.held) (pick t 10 h);
    }
