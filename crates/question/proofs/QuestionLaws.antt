-- The tests on a question, against what refusals 10 to 12 and 31 deny: by the bits of the masks, and table by table.
use mathlib.Core.Path.{◌≡◌, sym, ap, ◌∙◌, subst}
use mathlib.Core.Logic.{inl, inr}
use mathlib.Core.List.{List}
use mathlib.Core.Bool.{Bool, true, false, ◌||◌}
use Prim.Native.Nat.{ℕ, ◌+◌, ◌-◌, ◌*◌, ◌/◌, ◌^◌, ◌≤◌, ◌<◌}
use native.Mathlib.Nat.{zero-add, div-eq_of_lt}
use native.Mathlib.Omega.{arith}
use lib.Bits.{bit_or, or_lt}
use lib.Dec.{T, eqb, eqb→eq}
use lib.ListN.{length, take, drop}
use lib.Pow.{pow_mono}
use Rattle.std.specs.Bool.{MatchBool}
use Rattle.std.specs.List.{range_with_len, AllWithin, HoldsAt}
use Rattle.std.proofs.lemmas.List.FromFn.{length-range_with_len, get_or-range_with_len}
use Rattle.ground.specs.Digits.{bit}
use Rattle.ground.specs.Table.{Within}
use Rattle.ground.specs.Tells.{Tells}
use Rattle.ground.proofs.Bools.{T→false, false→T, both, decide, or_left, or_right, T_iff, or_out, eq→eqb, lt_or_ge}
use Rattle.ground.proofs.Bits.{same_bits, bit-bit_or}
use Rattle.ground.proofs.HighBits.{high_bit, shift_none}
use Rattle.ground.proofs.HighBits as High
use Rattle.ground.proofs.Table.{truth-take}
use Rattle.knowledge.specs.Goal.{learn_table}
use Rattle.question.specs.Rows.{TeamFits, KnownFits, HeldFits, LearnWithin}

-- a test tells what it is equivalent to
pub tells_by : {A : Type 0} (t : Bool) → (T t → A) → (A → T t) → Tells t A
tells_by true f g = f tt
tells_by false f g = g

pub tells_eqb : {A : Type 0} (a b : ℕ) → (a ≡ b → A) → (A → a ≡ b) → Tells (eqb a b) A
tells_eqb a b f g = tells_by (eqb a b) (λ h. f (eqb→eq a b h)) (λ x. eq→eqb (g x))

-- ---- bits

-- a number whose bits all stand below m is below 2 ^ m
pub low_bits : (k m v : ℕ) → v < 2 ^ k → ((q : ℕ) → T (bit v q) → q < m) → v < 2 ^ m
low_bits k m v h f = elim (lt_or_ge k m) [
  | inl l ↦ omega (arith, pow_mono {i = k} {j = m} (omega (arith, l)))
  | inr l ↦ (let split : k ≡ m + (k - m) = omega (arith, l) in High.low_bits m (k - m) v (subst (λ (x : ℕ). v < 2 ^ x) split h) (λ i low up. past i low))
]
  where
    past : (i : ℕ) → m ≤ i → bit v i ≡ false
    past i l = elim (decide (bit v i)) [ inl t ↦ absurd (omega (arith, f i t)) | inr t ↦ T→false (bit v i) t ]

-- and the other way
pub bits-low : (m v : ℕ) → v < 2 ^ m → (q : ℕ) → T (bit v q) → q < m
bits-low m v h q t = elim (lt_or_ge q m) [ inl l ↦ l | inr l ↦ both (bit v q) t (false→T (high_bit v m q h l)) ]

pub team-tells : (m team : ℕ) → team < 256 → (team ≡ 0 → ⊥) → Tells (eqb (team / 2 ^ m) 0) (TeamFits m team)
team-tells m team h ne =
    tells_eqb (team / 2 ^ m) 0
    (λ e. record { someone = ne; posts = bits-low m team (shift_none team m e) })
    (λ f. div-eq_of_lt (low_bits 8 m team h f.posts))

pub known_past : (n known values : ℕ) → known < 256 → (known / 2 ^ n ≡ 0 → ⊥) → KnownFits n known values → ⊥
known_past n known values h ne f = ne (div-eq_of_lt (low_bits 8 n known h f.settings))

pub known_tells : (n known values : ℕ) → known < 256 → values < 256 → known / 2 ^ n ≡ 0 → Tells (eqb (bit_or known values) known) (KnownFits n known values)
known_tells n known values hk hv z =
    tells_eqb (bit_or known values) known
    (λ e. record {
      settings = bits-low n known (shift_none known n z);
      valued = λ i t. subst T (sym (bit-bit_or known values i) ∙ ap (λ (x : ℕ). bit x i) e) (or_right (bit known i) (bit values i) t);
    })
    (λ f. same_bits 8 (bit_or known values) known (or_lt 8 known values hk hv) hk
    (λ i l. bit-bit_or known values i ∙ T_iff (bit known i || bit values i) (bit known i)
    (λ t. elim (or_out (bit known i) (bit values i) t) [ inl x ↦ x | inr x ↦ f.valued i x ])
    (λ t. or_left (bit known i) (bit values i) t)))

pub held_tells : (n held : ℕ) → held < 256 → Tells (eqb (held / 2 ^ n) 0) (HeldFits n held)
held_tells n held h =
    tells_eqb (held / 2 ^ n) 0
    (λ e. record { settings = bits-low n held (shift_none held n e) })
    (λ f. div-eq_of_lt (low_bits 8 n held h f.settings))

-- ---- tables

-- the table that begins at a byte, by its sixteen bytes
pub within-take : (n : ℕ) (t : List ℕ) → Within n t → Within n (take 16 t)
unfolding Within
within-take n t w v l h = truth-take t v h ∙ w v l h

pub within-drop : (n : ℕ) (t : List ℕ) → Within n (take 16 t) → Within n t
unfolding Within
within-drop n t w v l h = sym (truth-take t v h) ∙ w v l h

-- the test of all the learn tables, from first to last
pub learn_told : (n : ℕ) (learn : List ℕ) (r : Bool)
    → MatchBool r (AllWithin (λ j. Within n (drop (16 * j) learn)) (range_with_len 0 (length learn / 16)) 0 (length (range_with_len 0 (length learn / 16))))
    ((k : ℕ) × (k < length (range_with_len 0 (length learn / 16))) × HoldsAt (λ j. Within n (drop (16 * j) learn) → ⊥) (range_with_len 0 (length learn / 16)) k)
    → Tells r (LearnWithin n learn)
unfolding learn_table
learn_told n learn true all = λ j l.
    let here = get_or-range_with_len 0 (length learn / 16) j 0 l ∙ zero-add j in
    within-take n (drop (16 * j) learn)
    (rw here at (all j 0 (omega arith) (omega (arith, l, length-range_with_len 0 (length learn / 16)))))
learn_told n learn false (k, l, none) = λ f.
    let h : k < length learn / 16 = omega (arith, l, length-range_with_len 0 (length learn / 16)) in
    (rw (get_or-range_with_len 0 (length learn / 16) k 0 h ∙ zero-add k) at (none 0)) (within-drop n (drop (16 * k) learn) (f k h))
