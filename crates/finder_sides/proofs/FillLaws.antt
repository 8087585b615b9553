-- A table over all sides is right from a side up; one entry more is right because a side that does not know a setting is judged from the two
-- larger sides that tell it (`always-split`), and a side that tells all from its one valuation (`always-one`).
use mathlib.Core.Path.{◌≡◌, refl, sym, ap, ap₂, ◌∙◌}
use mathlib.Core.List.{List}
use mathlib.Core.Bool.{Bool, true, false, ◌&&◌}
use Prim.Native.Nat.{ℕ, ◌+◌, ◌*◌, ◌^◌, ◌≤◌, ◌<◌}
use native.Mathlib.Nat.{lt_of_le_of_lt, lt_of_lt_of_le, one-le-pow}
use native.Mathlib.Decide.{ℕ_discrete}
use native.Mathlib.Omega.{arith}
use lib.Bits.{bit_and, and_le_l}
use lib.Dec.{lit<}
use lib.ListN.{length, get_or, set, replicate, length-replicate}
use lib.Pow.{pow_mono}
use lib.Seq.{get_or-set_same, get_or-set_other}
use Rattle.ground.specs.Digits.{digit, put, bit}
use Rattle.ground.proofs.Bits.{bit-bit_and}
use Rattle.ground.proofs.Table.{zero_at}
use Rattle.ground.proofs.Digits.{put_same, put_other, put_lt, put-sum}
use Rattle.knowledge_acts.specs.Seven.{unknown, told}
use Rattle.knowledge.specs.Fits.{always}
use Rattle.knowledge.proofs.Fits.{always-split, always-one}
use Rattle.finder_sides.proofs.Shown.{three}
use Rattle.finder_sides.proofs.CountLaws.{sides-most}
use Rattle.finder_sides.specs.Fill.{FilledAt}
use Rattle.finder_sides.specs.Inner.{SideTells, FilledFrom}
use Rattle.finder_sides.specs.declared.told.SideTold.{SideTold}
use Rattle.finder_sides.specs.declared.told.SideTold.TheVariants.{Unknown, Valuation}

-- two judgements that hang on one test
and_both : (g a b : Bool) → (g && a) && (g && b) ≡ (g && (a && b))
and_both true a b = refl
and_both false a b = refl

module _ {n side i : ℕ} (below : i < n) (small : side < 3 ^ n) (at : digit 3 side i ≡ unknown) where
  -- the side where setting i is false (1) or true (2)
  pub moved : (d power : ℕ) → power ≡ 3 ^ i → put 3 side i d ≡ side + d * power
  moved d power e =
      rw e (let s = rw at at (put-sum three side i d) in omega (arith, s))

  pub moved_lt : (d power : ℕ) → d < 3 → power ≡ 3 ^ i → side + d * power < 3 ^ n
  moved_lt d power h e = rw (← (moved d power e)) (put_lt three side i n d small below h)

  same : (d : ℕ) → d < 3 → (j : ℕ) → j < n → (j ≡ i → ⊥) → digit 3 side j ≡ digit 3 (put 3 side i d) j
  same d h j l ne = sym (put_other three side i j d h ne)

  split : (b : Bool) (t : List ℕ) → always b n (digit 3 side) t ≡ (always b n (digit 3 (put 3 side i 1)) t && always b n (digit 3 (put 3 side i 2)) t)
  split b t =
      always-split n i (digit 3 side) (digit 3 (put 3 side i 1)) (digit 3 (put 3 side i 2)) below at
      (put_same three side i 1 (lit< tt)) (put_same three side i 2 (lit< tt)) (same 1 (lit< tt)) (same 2 (lit< tt)) b t

  between : {columns : List ℕ} {x y : ℕ} → FilledAt n columns (put 3 side i 1) x → FilledAt n columns (put 3 side i 2) y → FilledAt n columns side (bit_and x y)
  between {columns} {x} {y} no_side yes-side = record {
    tells = λ q g b t col.
        bit-bit_and x y q ∙ ap₂ ◌&&◌ (no_side.tells q g b t col) (yes-side.tells q g b t col)
        ∙ and_both g (always b n (digit 3 (put 3 side i 1)) t) (always b n (digit 3 (put 3 side i 2)) t)
        ∙ ap (λ (z : Bool). g && z) (sym (split b t));
    small = λ m h. lt_of_le_of_lt (and_le_l x y) (no_side.small m h);
  }

  -- a side with an unknown setting, from the two entries above it
  pub filled-unknown : {columns : List ℕ} (table : List ℕ) (power : ℕ) → power ≡ 3 ^ i → 0 < power → FilledFrom n columns (side + 1) table
      → FilledAt n columns side (bit_and (get_or table (side + power) 0) (get_or table (side + 2 * power) 0))
  filled-unknown {columns} table power e pos above =
      between {x = get_or table (side + power) 0} {y = get_or table (side + 2 * power) 0}
      (rw (moved 1 power e, one_power) (above (side + power) (omega arith) (rw one_power at (moved_lt 1 power (lit< tt) e))))
      (rw (moved 2 power e) (above (side + 2 * power) (omega arith) (moved_lt 2 power (lit< tt) e)))
    where
      one_power : 1 * power ≡ power
      one_power = omega arith

-- a side with nothing unknown has the column of its valuation
pub filled-known : {n side v : ℕ} (columns : List ℕ) → v < 2 ^ n → ((i : ℕ) → i < n → digit 3 side i ≡ told (bit v i))
    → FilledAt n columns side (get_or columns v 0)
filled-known {n} {side} {v} columns small all_told = record {
  tells = λ q g b t col. col v small ∙ ap (λ (z : Bool). g && z) (sym (always-one b n (digit 3 side) t v small all_told));
  small = λ m h. h v small;
}

-- one entry more, from the top down
pub filled_more : {n x y e : ℕ} {columns : List ℕ} (table : List ℕ) → y ≡ x + 1 → x < length table → FilledFrom n columns y table → FilledAt n columns x e
    → FilledFrom n columns x (set table x e)
filled_more {n} {x} {y} {e} table next fits above here s l h = elim (ℕ_discrete s x) [
  | yes q ↦ rw (q, get_or-set_same table x e 0 fits) here
  | no q ↦ rw (get_or-set_other table x s e 0 q) (above s (omega arith) h)
]

pub past_more : (n : ℕ) {x : ℕ} (table : List ℕ) (e : ℕ) → x < 3 ^ n → ((s : ℕ) → 3 ^ n ≤ s → get_or table s 0 ≡ 0)
    → (s : ℕ) → 3 ^ n ≤ s → get_or (set table x e) s 0 ≡ 0
past_more n {x} table e small past s h = get_or-set_other table x s e 0 (λ q. absurd (omega arith)) ∙ past s h

-- a list of zeros, whatever its length
abbrev pub zeros : ℕ → List ℕ
zeros m = replicate m 0

pub zeros_long : (m : ℕ) → length (zeros m) ≡ m
zeros_long m = length-replicate {A = ℕ} m 0

pub zeros_at : (m s : ℕ) → get_or (zeros m) s 0 ≡ 0
zeros_at m s = zero_at m s

-- by what the side tells
module _ (n side : ℕ) (r : SideTold) (most : n ≤ 7) (small : side < 3 ^ n) (says : SideTells n side r) where
  module _ (power : ℕ) (is : r ≡ Unknown power) where
    the_setting : (i : ℕ) × (i < n) × (digit 3 side i ≡ unknown) × (power ≡ 3 ^ i)
    the_setting = rw is at says

    pub place_lt : (d : ℕ) → d < 3 → side + d * power < 2187
    place_lt d h =
        let w = the_setting in
        lt_of_lt_of_le (moved_lt w.1 small w.2 d power h w.3) (sides-most n most)

    pub entry-unknown : {columns : List ℕ} (table : List ℕ) → FilledFrom n columns (side + 1) table
        → FilledAt n columns side (bit_and (get_or table (side + power) 0) (get_or table (side + 2 * power) 0))
    entry-unknown table above =
        let w = the_setting in
        filled-unknown w.1 small w.2 table power w.3 (rw w.3 (one-le-pow w.0 3 three)) above

  module _ (v : ℕ) (is : r ≡ Valuation v) where
    the_valuation : (v < 2 ^ n) × ((i : ℕ) → i < n → digit 3 side i ≡ told (bit v i))
    the_valuation = rw is at says

    pub valuation_lt : v < 128
    valuation_lt = lt_of_lt_of_le the_valuation.0 (pow_mono most)

    pub entry_known : (columns : List ℕ) → FilledAt n columns side (get_or columns v 0)
    entry_known columns = filled-known columns the_valuation.0 the_valuation.1
