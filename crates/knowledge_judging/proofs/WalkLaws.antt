-- The walk over the valuations of a side: those of the unknown settings that are true go up from none, each time to the next that are more, so that after all
-- of them none is left out. What comes next is said by halves, against which the code's one line is a computed test of all masks.
use mathlib.Core.Path.{◌≡◌, refl, sym, ap, ◌∙◌, subst}
use mathlib.Core.Logic.{◌⊎◌, inl, inr}
use mathlib.Core.Bool.{Bool, true, false, not, cond, ◌&&◌, ◌||◌}
use mathlib.Core.List.{List}
use Prim.Native.Nat.{ℕ, zero, suc, ◌+◌, ◌*◌, ◌-◌, ◌/◌, ◌%◌, ◌^◌, ◌≤◌, ◌<◌}
use native.Mathlib.Nat.{pow-zero, two-pow-succ}
use native.Mathlib.Decide.{ℕ_discrete}
use native.Mathlib.Omega.{arith}
use lib.Bits.{bit_and, bit_or, and_le_l, and_le_r, or_lt}
use lib.Dec.{T, eqb, eqb→eq, not_T}
use lib.Pow.{pow_mono}
use Rattle.ground.specs.Digits.{bit}
use Rattle.ground.specs.Search.{all}
use Rattle.ground.specs.Table.{truth}
use Rattle.ground.proofs.Bits.{bit_zero, bit-suc, bit-bit_and, bit-bit_or, same_bits}
use Rattle.ground.proofs.Bools.{T→true, T→false, true→T, false→T, and_in, and_true, and_false, and_left, and_right, both, decide, eq→eqb, or_false, lt_or_ge, T_iff}
use Rattle.ground.proofs.Search.{all-at, all_intro}
use Rattle.knowledge.specs.Fits.{fits, implies, is, always}
use Rattle.knowledge.proofs.Fits.{implies_in, implies_out, agrees-unknown, agrees-told, agrees-only, fits-at, fits_intro, always-at, always_intro}
use Rattle.knowledge_judging.specs.Walk.{MasksOf, within, next_of, everywhere}
use Rattle.knowledge_judging.specs.declared.masks.Masks.{Masks}

-- ---- some of the settings of a mask

abbrev pub Sub : ℕ → ℕ → Type 0
Sub t mask = (i : ℕ) → T (bit t i) → T (bit mask i)

pub sub_of : (t mask : ℕ) → T (within t mask) → Sub t mask
sub_of t mask h i b =
    and_right (bit t i) (bit mask i) (subst T (ap (λ (x : ℕ). bit x i) (sym (eqb→eq (bit_and t mask) t h)) ∙ bit-bit_and t mask i) b)

pub sub_in : (k t mask : ℕ) → t < 2 ^ k → Sub t mask → T (within t mask)
sub_in k t mask small sub =
    eq→eqb (same_bits k (bit_and t mask) t (omega (arith, and_le_l t mask)) small (λ i l. bit-bit_and t mask i ∙ kept i))
  where
    kept : (i : ℕ) → bit t i && bit mask i ≡ bit t i
    kept i = elim (decide (bit t i)) [
      | inl b ↦ rw (T→true (bit t i) b, T→true (bit mask i) (sub i b))
      | inr b ↦ rw (T→false (bit t i) b)
    ]

-- the half of both
halved : (t mask : ℕ) → Sub t mask → Sub (t / 2) (mask / 2)
halved t mask sub i b = subst T (bit-suc mask i) (sub (suc i) (subst T (sym (bit-suc t i)) b))

lowest : (t mask : ℕ) → Sub t mask → t % 2 ≡ 1 → mask % 2 ≡ 1
lowest t mask sub e = eqb→eq (mask % 2) 1 (subst T (bit_zero mask) (sub 0 (subst T (sym (bit_zero t)) (eq→eqb e))))

-- ---- what comes next, by halves

unfoldable next : ℕ → ℕ → ℕ → ℕ
next zero mask s = 0
next (suc n) mask s = cond (eqb (mask % 2) 1 && eqb (s % 2) 0) (suc s) (2 * next n (mask / 2) (s / 2))

-- it is more, and no more than any that are more
next-least : (n mask s t : ℕ) → t < 2 ^ n → Sub s mask → Sub t mask → s < t → (s < next n mask s) × (next n mask s ≤ t)
unfolding next
next-least zero mask s t small a b l = absurd (omega (arith, small, pow-zero 2))
next-least (suc n) mask s t small a b l = elim (decide (eqb (mask % 2) 1 && eqb (s % 2) 0)) [
  | inl h ↦ rw (T→true (eqb (mask % 2) 1 && eqb (s % 2) 0) h) (omega arith, omega arith)
  | inr h ↦ (let up : s / 2 < t / 2 = higher h in
      let later = next-least n (mask / 2) (s / 2) (t / 2) (omega (arith, small, two-pow-succ n)) (halved s mask a) (halved t mask b) up in
      rw (T→false (eqb (mask % 2) 1 && eqb (s % 2) 0) h) (omega (arith, later.0), omega (arith, later.1)))
]
  where
    higher : T (not (eqb (mask % 2) 1 && eqb (s % 2) 0)) → s / 2 < t / 2
    higher h = elim (lt_or_ge (s / 2) (t / 2)) [
      | inl m ↦ m
      | inr m ↦ (let even : s % 2 ≡ 0 = omega arith in
          let odd : t % 2 ≡ 1 = omega arith in
          both (eqb (mask % 2) 1 && eqb (s % 2) 0) (and_in (eqb (mask % 2) 1) (eqb (s % 2) 0) (eq→eqb (lowest t mask b odd)) (eq→eqb even)) h)
    ]

-- it is none, or it is more
next_more : (n mask s : ℕ) → (next n mask s ≡ 0) ⊎ (s < next n mask s)
unfolding next
next_more zero mask s = inl refl
next_more (suc n) mask s = elim (decide (eqb (mask % 2) 1 && eqb (s % 2) 0)) [
  | inl h ↦ rw (T→true (eqb (mask % 2) 1 && eqb (s % 2) 0) h) (inr (omega arith))
  | inr h ↦ rw (T→false (eqb (mask % 2) 1 && eqb (s % 2) 0) h) (elim (next_more n (mask / 2) (s / 2)) [
    | inl e ↦ inl (omega (arith, e))
    | inr l ↦ inr (omega (arith, l))
  ])
]

-- the code's line, at all masks and all parts of them
unfoldable right-at : ℕ → ℕ → Bool
unfolding next
right-at mask s = implies (within s mask) (eqb (next_of mask s) (next 7 mask s) && within (next_of mask s) mask)

computed : T (all 128 (λ mask. all 128 (λ s. right-at mask s)))
unfolding all right-at next
computed = tt

module _ (mask s : ℕ) (few : mask < 128) (small : s < 128) (part : T (within s mask)) where
  right : T (eqb (next_of mask s) (next 7 mask s) && within (next_of mask s) mask)
  unfolding right-at
  right =
      implies_out (within s mask) (eqb (next_of mask s) (next 7 mask s) && within (next_of mask s) mask)
      (all-at 128 (λ s. right-at mask s) (all-at 128 (λ mask. all 128 (λ s. right-at mask s)) computed mask few) s small) part

  is-next : next_of mask s ≡ next 7 mask s
  is-next = eqb→eq (next_of mask s) (next 7 mask s) (and_left (eqb (next_of mask s) (next 7 mask s)) (within (next_of mask s) mask) right)

  pub next-within : T (within (next_of mask s) mask)
  next-within = and_right (eqb (next_of mask s) (next 7 mask s)) (within (next_of mask s) mask) right

  pub next_small : next_of mask s < 128
  next_small = omega (arith, and_le_r (bit_or s (127 - mask) + 1) mask)

  -- of more settings than these, those that come next are the least
  pub next-above : (t : ℕ) → t < 128 → T (within t mask) → s < t → (s < next_of mask s) × (next_of mask s ≤ t)
  next-above t l h up =
      rw is-next (next-least 7 mask s t l (sub_of s mask part) (sub_of t mask h) up)

-- ---- the walk

-- the table has the value with every part of the mask below s
pub record WalkedTo (value : Bool) (table : List ℕ) (mask values s : ℕ) : Type 0 where
  pub small : s < 128
  pub part : T (within s mask)
  pub passed : (t : ℕ) → t < s → T (within t mask) → T (is value (truth table (bit_or values t)))

module _ (value : Bool) (table : List ℕ) (mask values : ℕ) where
  abbrev has : ℕ → Bool
  has t = is value (truth table (bit_or values t))

  module _ (few : mask < 128) {s : ℕ} (w : WalkedTo value table mask values s) where
    -- the way out where the value is another
    pub walked_not : has s ≡ false → false ≡ everywhere value table mask values
    unfolding everywhere
    walked_not e =
        sym (T→false _ (not_T (all 128 (λ t. implies (within t mask) (has t)))
        (λ h. both (has s) (implies_out (within s mask) (has s) (all-at 128 (λ t. implies (within t mask) (has t)) h s w.small) w.part) (false→T e))))

    module _ (here : has s ≡ true) where
      -- a part of the mask that is not more than s
      so_far : (t : ℕ) → t ≤ s → T (within t mask) → T (has t)
      so_far t l h = elim (ℕ_discrete t s) [
        | yes e ↦ rw e (true→T here)
        | no ne ↦ w.passed t (omega arith) h
      ]

      -- the way out after all of them
      pub walked_all : next_of mask s ≡ 0 → true ≡ everywhere value table mask values
      unfolding everywhere
      walked_all e =
          sym (T→true _ (all_intro 128 (λ t. implies (within t mask) (has t)) (λ t l. implies_in (within t mask) (has t) (λ h. elim (lt_or_ge s t) [
            | inl up ↦ absurd (omega (arith, (next-above mask s few w.small w.part t l h up).0, e))
            | inr down ↦ so_far t down h
          ]))))

      -- a turn
      pub walked_on : (next_of mask s ≡ 0 → ⊥) → WalkedTo value table mask values (next_of mask s)
      walked_on ne = record {
        small = next_small mask s few w.small w.part;
        part = next-within mask s few w.small w.part;
        passed = λ t l h. elim (lt_or_ge s t) [
          | inl up ↦ absurd (omega (arith, (next-above mask s few w.small w.part t (omega (arith, next_small mask s few w.small w.part)) h up).1))
          | inr down ↦ so_far t down h
        ];
      }

      pub walked_up : (next_of mask s ≡ 0 → ⊥) → s < next_of mask s
      walked_up ne = elim (next_more 7 mask s) [
        | inl e ↦ absurd (ne (is-next mask s few w.small w.part ∙ e))
        | inr l ↦ rw (is-next mask s few w.small w.part) l
      ]

-- ---- the whole walk: from the masks of a side

module _ {n : ℕ} {side : ℕ → ℕ} {m : Masks} (few : n ≤ 7) (o : MasksOf n side m) where
  pub masks_small : m.unknown < 128
  masks_small = omega (arith, o.unknown_small, pow_mono {i = n} {j = 7} few)

  -- a valuation that fits is the values with a part of the unknown settings
  part_of : (v : ℕ) → v < 2 ^ n → T (fits n side v) → bit_or m.values (bit_and v m.unknown) ≡ v
  part_of v l f =
      same_bits n (bit_or m.values (bit_and v m.unknown)) v (or_lt n m.values (bit_and v m.unknown) o.values_small (omega (arith, and_le_l v m.unknown))) l
      (λ i h. bit-bit_or m.values (bit_and v m.unknown) i ∙ ap (λ (b : Bool). bit m.values i || b) (bit-bit_and v m.unknown i) ∙ at i h)
    where
      at : (i : ℕ) → i < n → bit m.values i || (bit v i && bit m.unknown i) ≡ bit v i
      at i h = elim (decide (bit m.unknown i)) [
        | inl b ↦ rw (o.clear i h b, T→true (bit m.unknown i) b) (and_true (bit v i))
        | inr b ↦ rw (T→false (bit m.unknown i) b, and_false (bit v i)) (or_false (bit m.values i)
            ∙ sym (agrees-only (bit m.values i) (bit v i) (rw (o.tells i h, T→false (bit m.unknown i) b) at (fits-at n side v f i h))))
      ]

  -- and the values with any part of them fit
  part_fits : (t : ℕ) → T (within t m.unknown) → T (fits n side (bit_or m.values t))
  part_fits t h = fits_intro n side (bit_or m.values t) (λ i l. elim (decide (bit m.unknown i)) [
    | inl b ↦ rw (o.tells i l, T→true (bit m.unknown i) b) (agrees-unknown (bit (bit_or m.values t) i))
    | inr b ↦ rw (o.tells i l, T→false (bit m.unknown i) b, bit-bit_or m.values t i, T→false (bit t i) (outside i b), or_false (bit m.values i)) (agrees-told (bit m.values i))
  ])
    where
      outside : (i : ℕ) → T (not (bit m.unknown i)) → T (not (bit t i))
      outside i b = not_T (bit t i) (λ x. both (bit m.unknown i) (sub_of t m.unknown h i x) b)

  pub walks_all : (value : Bool) (table : List ℕ) → everywhere value table m.unknown m.values ≡ always value n side table
  unfolding everywhere
  walks_all value table =
      T_iff (all 128 (λ t. implies (within t m.unknown) (is value (truth table (bit_or m.values t))))) (always value n side table)
      (λ h. always_intro value n side table (λ v l f. subst (λ (x : ℕ). T (is value (truth table x))) (part_of v l f)
      (implies_out (within (bit_and v m.unknown) m.unknown) (is value (truth table (bit_or m.values (bit_and v m.unknown))))
      (all-at 128 (λ t. implies (within t m.unknown) (is value (truth table (bit_or m.values t)))) h (bit_and v m.unknown)
      (omega (arith, and_le_r v m.unknown, masks_small)))
      (sub_in 7 (bit_and v m.unknown) m.unknown (omega (arith, and_le_r v m.unknown, masks_small))
      (λ i b. and_right (bit v i) (bit m.unknown i) (subst T (bit-bit_and v m.unknown i) b))))))
      (λ h. all_intro 128 (λ t. implies (within t m.unknown) (is value (truth table (bit_or m.values t))))
      (λ t l. implies_in (within t m.unknown) (is value (truth table (bit_or m.values t)))
      (λ x. always-at value n side table h (bit_or m.values t) (or_lt n m.values t o.values_small (below t x)) (part_fits t x))))
    where
      below : (t : ℕ) → T (within t m.unknown) → t < 2 ^ n
      below t x = omega (arith, and_le_r t m.unknown, eqb→eq (bit_and t m.unknown) t x, o.unknown_small)
