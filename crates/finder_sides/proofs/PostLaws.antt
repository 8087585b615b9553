-- The posts at a valuation are read from the last post down, each bit below those before it; filled over all sides, bit q tells what is known
-- of the rule of post q, since its column tells that rule's table wherever the post is of the team.
use mathlib.Core.Path.{◌≡◌, refl, sym, ap, ◌∙◌}
use mathlib.Core.Logic.{inl, inr}
use mathlib.Core.List.{List, []}
use mathlib.Core.Bool.{Bool, true, false, ◌&&◌}
use Prim.Native.Nat.{ℕ, zero, suc, ◌+◌, ◌*◌, ◌-◌, ◌^◌, ◌≤◌, ◌<◌}
use native.Mathlib.Nat.{pow-suc}
use native.Mathlib.Omega.{arith}
use lib.Arith.{digits_div, digits_mod}
use lib.Dec.{eqb, lit<}
use lib.ListN.{length, get_or, set, replicate, length-replicate, get_or-replicate, length-set, get_or-eq_default}
use lib.Seq.{get_or-set_other}
use Rattle.ground.specs.Digits.{digit, bit}
use Rattle.ground.proofs.Bits.{bit_zero, bit-suc}
use Rattle.ground.proofs.Bools.{lt_or_ge}
use Rattle.book_block.specs.Rule.{rule}
use Rattle.book_block.specs.declared.rule.Right.{Right}
use Rattle.knowledge.specs.Judgement.{judgement, holds}
use Rattle.knowledge.proofs.JudgementLaws.{holds-is}
use Rattle.finder_sides.proofs.ListLaws.{each_more}
use Rattle.finder_sides.proofs.Ones.{one_lt}
use Rattle.finder_sides.proofs.FillLaws.{zeros, zeros_long, zeros_at}
use Rattle.finder_sides.specs.Tables.{one_of, entry, PostTables}
use Rattle.finder_sides.specs.Fill.{Filled}
use Rattle.finder_sides.specs.Inner.{doubled, PostsAt, EachColumn}

one-is : (b : Bool) → eqb (one_of b) 1 ≡ b
one-is true = refl
one-is false = refl

-- the lowest bit, and the others one place up
low_bit : (x : ℕ) (b : Bool) → bit (doubled x b) 0 ≡ b
low_bit x b = bit_zero (x * 2 + one_of b) ∙ ap (λ (y : ℕ). eqb y 1) (digits_mod x (one_lt b)) ∙ one-is b

next_bit : (x i : ℕ) (b : Bool) → bit (doubled x b) (suc i) ≡ bit x i
next_bit x i b = bit-suc (x * 2 + one_of b) i ∙ ap (λ (y : ℕ). bit y i) (digits_div x (one_lt b))

-- the bits of the posts from this one on
pub record BitsFrom (f : ℕ → Bool) (post bits : ℕ) : Type 0 where
  pub most : post ≤ 8
  pub small : bits < 2 ^ (8 - post)
  pub tells : (j : ℕ) → post + j < 8 → bit bits j ≡ f (post + j)

module _ {f : ℕ → Bool} {post bits : ℕ} (b : BitsFrom f post bits) (some : 0 < post) where
  more-tells : (x : Bool) → x ≡ f (post - 1) → (j : ℕ) → post - 1 + j < 8 → bit (doubled bits x) j ≡ f (post - 1 + j)
  more-tells x e zero h = low_bit bits x ∙ e ∙ ap f (omega arith)
  more-tells x e (suc j) h = next_bit bits j x ∙ b.tells j (omega arith) ∙ ap f (omega arith)

  more-small : (x : Bool) → doubled bits x < 2 ^ (8 - (post - 1))
  more-small x =
      let e : 8 - (post - 1) ≡ suc (8 - post) = omega (arith, b.most) in
      rw (e, pow-suc) (omega (arith, b.small, one_lt x))

  pub bits-more : (x : Bool) → x ≡ f (post - 1) → BitsFrom f (post - 1) (doubled bits x)
  bits-more x e = record { most = omega (arith, b.most); small = more-small x; tells = more-tells x e }

-- one setting's table, and one that nothing was stored in
pub record PostRow (n : ℕ) (book : List ℕ) (team : ℕ) (right : Right) (i : ℕ) (row : List ℕ) : Type 0 where
  pub long : length row ≡ 2187
  pub posts : (s q : ℕ) → s < 3 ^ n → q < 8 → bit (get_or row s 0) q ≡ (bit team q && holds (judgement n (digit 3 s) (rule book i q right)))
  pub bytes : (s : ℕ) → get_or row s 0 < 256
  pub past : (s : ℕ) → 3 ^ n ≤ s → get_or row s 0 ≡ 0

pub record BlankRow (row : List ℕ) : Type 0 where
  pub long : length row ≡ 2187
  pub zero_at : (s : ℕ) → get_or row s 0 ≡ 0

blank_row : BlankRow (zeros 2187)
blank_row = record { long = zeros_long 2187; zero_at = λ s. zeros_at 2187 s }

module _ {n team i : ℕ} {book columns t : List ℕ} {right : Right}
    (cols : EachColumn (PostsAt book team i right) (2 ^ n) columns) (filled : Filled n columns t) where
  post-known : (s q : ℕ) → s < 3 ^ n → q < 8 → bit (get_or t s 0) q ≡ (bit team q && holds (judgement n (digit 3 s) (rule book i q right)))
  post-known s q h l =
      (filled.each s h).tells q (bit team q) true (rule book i q right) (λ v m. (cols v m).posts q l)
      ∙ ap (λ (x : Bool). bit team q && x) (sym (holds-is n (digit 3 s) (rule book i q right)))

  post-byte : (s : ℕ) → get_or t s 0 < 256
  post-byte s = elim (lt_or_ge s (3 ^ n)) [
    | inl h ↦ (filled.each s h).small 256 (λ v m. (cols v m).byte)
    | inr h ↦ rw (filled.past s h) (lit< tt)
  ]

  pub post-row : PostRow n book team right i t
  post-row = record { long = filled.long; posts = post-known; bytes = post-byte; past = filled.past }

-- the tables of the first settings, and nothing yet in those after
pub record RowsTo (n : ℕ) (book : List ℕ) (acting : ℕ → ℕ) (right : Right) (k : ℕ) (t : List (List ℕ)) : Type 0 where
  pub settings : length t ≡ 7
  pub rows : (i : ℕ) → i < k → PostRow n book (acting i) right i (get_or t i [])
  pub blank : (i : ℕ) → k ≤ i → i < 7 → BlankRow (get_or t i [])

module _ {n : ℕ} {acting : ℕ → ℕ} {book : List ℕ} {right : Right} where
  pub no_rows : RowsTo n book acting right 0 (replicate 7 (zeros 2187))
  no_rows = record {
    settings = length-replicate 7 (zeros 2187);
    rows = λ i h. absurd (omega arith);
    blank = λ i h l. rw (get_or-replicate 7 i (zeros 2187) [] l) blank_row;
  }

  pub more_rows : {k : ℕ} (t : List (List ℕ)) (row : List ℕ) → k < 7 → RowsTo n book acting right k t → PostRow n book (acting k) right k row
      → RowsTo n book acting right (k + 1) (set t k row)
  more_rows {k} t row below r here = record {
    settings = length-set t k row ∙ r.settings;
    rows = each_more [] (λ i x. PostRow n book (acting i) right i x) t k row (omega (arith, r.settings)) r.rows here;
    blank = λ i h l. rw (get_or-set_other t k i row [] (λ q. absurd (omega arith))) (r.blank i (omega arith) l);
  }

  -- an entry of the settings past n is 0
  no_entry : {k : ℕ} (t : List (List ℕ)) → RowsTo n book acting right k t → (i s : ℕ) → k ≤ i → entry t i s ≡ 0
  unfolding entry
  no_entry t r i s h = elim (lt_or_ge i 7) [
    | inl l ↦ (r.blank i h l).zero_at s
    | inr l ↦ ap (λ (x : List ℕ). get_or x s 0) (get_or-eq_default t [] (omega (arith, r.settings)))
  ]

  pub all-rows : {k : ℕ} (t : List (List ℕ)) → RowsTo n book acting right k t → k ≤ n → n ≤ k → PostTables n book acting right t
  unfolding entry
  all-rows {k} t r up down = record {
    posts = λ i s q h l m. (r.rows i (omega arith)).posts s q l m;
    bytes = λ i s. elim (lt_or_ge i k) [
      | inl h ↦ (r.rows i h).bytes s
      | inr h ↦ rw (no_entry t r i s h) (lit< tt)
    ];
    settings = r.settings;
    sides = λ i h. elim (lt_or_ge i k) [
      | inl l ↦ (r.rows i l).long
      | inr l ↦ (r.blank i l h).long
    ];
    no_setting = λ i s h. no_entry t r i s (omega arith);
    no_side = λ i s h. elim (lt_or_ge i k) [
      | inl l ↦ (r.rows i l).past s h
      | inr l ↦ no_entry t r i s l
    ];
  }
