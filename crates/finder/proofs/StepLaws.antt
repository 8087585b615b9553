-- A step by the tables: which posts may act is a bit of a table, and the plan written takes the smallest byte that leads lower.
use mathlib.Core.Path.{◌≡◌, refl, sym, ap, ap₂, ◌∙◌, subst}
use mathlib.Core.Logic.{inl, inr}
use mathlib.Core.List.{List, []}
use mathlib.Core.Bool.{Bool, true, false}
use Prim.Native.Nat.{ℕ, ◌+◌, ◌*◌, ◌/◌, ◌%◌, ◌^◌, ◌≤◌, ◌<◌}
use native.Mathlib.Omega.{arith}
use lib.Dec.{T, eqb→eq, lit<}
use mir.Syntax.{w8}
use Rattle.std.specs.Int.{trailing_zeros}
use Rattle.std.proofs.lemmas.Nat.Bits.{bit_at-trailing_zeros}
use lib.ListN.{get_or}
use Rattle.ground.specs.Digits.{digit, bit}
use Rattle.ground.specs.Search.{Least}
use Rattle.ground.proofs.Bools.{false→T, both, eq→eqb, lt_or_ge}
use Rattle.ground.proofs.Bits.{same_bits, bit_of_zero}
use Rattle.knowledge_acts.specs.Acts.{set_to, look_at, byte_of, of_kind, setting_of, post_of, kind_of}
use Rattle.knowledge_acts.specs.declared.act.Act.{Act}
use Rattle.knowledge_acts.specs.declared.act.Act.TheVariants.{Set, Look}
use Rattle.knowledge_acts.proofs.Acts.{of_kind_of, byte_of_kind, post_of_kind}
use Rattle.knowledge.specs.Number.{digit_in, digits_of}
use lib.Arith.{digits_div, digits_mod}
use Rattle.knowledge.proofs.Number.{digits_are}
use Rattle.plan.specs.Plans.{System, may, after_set_case, after_look}
use Rattle.plan.specs.Ranks.{Chosen}
use native.Mathlib.Nat.{pow-le-pow_right}
use Rattle.plan.proofs.Acts.{after_a_set, after_a_look}
use Rattle.plan.proofs.Certificate.{numbers_closed}
use Rattle.plan.proofs.Table.{chosen}
use Rattle.finder_sides.specs.Sides.{now_side_number}
use Rattle.finder_sides.specs.Tables.{entry}
use Rattle.finder.specs.Tables.{TablesTell, Lower, family}

-- ---- bounds

pub number_small : (n k : ℕ) → n ≤ 7 → k < 7 ^ n → k < 7 ^ 7
number_small n k h l = omega (arith, pow-le-pow_right {n = 7} (lit< tt) {i = n} {j = 7} h)

-- what an act on a setting hands back is the number after it
pub after_act : {n k i x y : ℕ} → n ≤ 7 → k < 7 ^ n → i < n → (k < 7 ^ 7 → i < 7 → x ≡ y) → x ≡ y
after_act {n} {k} few state below f = f (number_small n k few state) (omega arith)

-- the entry as code reads it
pub at_side : (t : List (List ℕ)) (i : ℕ) {side s : ℕ} → side ≡ s → get_or (get_or t i []) side 0 ≡ entry t i s
unfolding entry
at_side t i e = ap (λ (x : ℕ). get_or (get_or t i []) x 0) e

-- an entry of the rank table, by the number that code computed
pub rank-at : (ranks : List ℕ) {x y : ℕ} → x ≡ y → get_or ranks x 0 ≡ get_or ranks y 0
rank-at ranks e = ap (λ (x : ℕ). get_or ranks x 0) e

-- ---- the lowest post of a mask

-- a byte that is not 0 has a bit below 8
pub some-bit : (x : ℕ) → x < 256 → (x ≡ 0 → ⊥) → ((q : ℕ) → q < 8 → bit x q ≡ false) → ⊥
some-bit x h ne f = ne (same_bits 8 x 0 h (lit< tt) (λ i l. f i l ∙ sym (bit_of_zero i)))

-- it is where the zeros below it end
pub lowest_set : (x : ℕ) → (x ≡ 0 → ⊥) → x < 256 → Least (λ q. T (bit x q)) (trailing_zeros w8 x) × (trailing_zeros w8 x < 8)
unfolding bit digit
lowest_set x some small =
    let z = bit_at-trailing_zeros w8 x (omega arith) small in
    (record { here = eq→eqb z.1; none_below = λ q l t. absurd (omega (arith, z.2 q l, eqb→eq _ 1 t)) }, z.0)

-- ---- a step of each kind

module _ {n : ℕ} {sets looks : List (List ℕ)} {ranks : List ℕ} {S : System} (told : TablesTell n sets looks ranks S) (k i : ℕ) (hi : i < n) where
  -- an act by a post that the mask does not have leads nowhere
  set-bit : (q : ℕ) (b : Bool) → T (may S k (Set i q b)) → T (bit (entry sets i (now_side_number n k)) q)
  set-bit q b m = subst T (told.sets k i q b hi (told.law.post_of_case k (Set i q b) m)) m

  look_bit : (q : ℕ) → T (may S k (Look i q)) → T (bit (entry looks i (now_side_number n k)) q)
  look_bit q m = subst T (told.looks k i q hi (told.law.post_of_case k (Look i q) m) (told.law.looks_at k i q m)) m

  nobody : (x q : ℕ) → x ≡ 0 → T (bit x q) → ⊥
  nobody x q e t = both (bit x q) t (false→T (ap (λ (y : ℕ). bit y q) e ∙ bit_of_zero q))

  pub set-nobody : (b : Bool) → entry sets i (now_side_number n k) ≡ 0 → (q : ℕ) → Lower S ranks k (Set i q b) → ⊥
  set-nobody b e q l = nobody (entry sets i (now_side_number n k)) q e (set-bit q b l.allowed)

  pub set_no_lower : (b : Bool) → get_or ranks k 0 ≤ get_or ranks (set_to k i b) 0 → (q : ℕ) → Lower S ranks k (Set i q b) → ⊥
  set_no_lower b h q l = omega (arith, l.lower (set_to k i b) (after_set_case i q b))

  pub set_do : (b : Bool) (q : ℕ) → q < 8 → Least (λ q. T (bit (entry sets i (now_side_number n k)) q)) q → get_or ranks (set_to k i b) 0 < get_or ranks k 0
      → (p : ℕ) × (Set i q b ≡ Set i p b) × Lower S ranks k (Set i p b) × ((x : ℕ) → Lower S ranks k (Set i x b) → p ≤ x)
  set_do b q h l r = (
    q,
    refl,
    record { allowed = subst T (sym (told.sets k i q b hi h)) l.here; lower = λ x. after_a_set (λ x. get_or ranks x 0 < get_or ranks k 0) r },
    λ x m. elim (lt_or_ge x q) [ inl y ↦ absurd (l.none_below x y (set-bit x b m.allowed)) | inr y ↦ y ],
  )

  pub look_seen : (digit 7 k i ≡ 0 → ⊥) → (q : ℕ) → Lower S ranks k (Look i q) → ⊥
  look_seen f q l = f (told.law.looks_at k i q l.allowed)

  pub look_nobody : entry looks i (now_side_number n k) ≡ 0 → (q : ℕ) → Lower S ranks k (Look i q) → ⊥
  look_nobody e q l = nobody (entry looks i (now_side_number n k)) q e (look_bit q l.allowed)

  pub look_no_lower : (b : Bool) → get_or ranks k 0 ≤ get_or ranks (look_at k i b) 0 → (q : ℕ) → Lower S ranks k (Look i q) → ⊥
  look_no_lower b h q l = omega (arith, l.lower (look_at k i b) (after_look i q b))

  pub look_do : (q : ℕ) → q < 8 → digit 7 k i ≡ 0 → Least (λ q. T (bit (entry looks i (now_side_number n k)) q)) q
      → get_or ranks (look_at k i false) 0 < get_or ranks k 0 → get_or ranks (look_at k i true) 0 < get_or ranks k 0
      → (p : ℕ) × (Look i q ≡ Look i p) × Lower S ranks k (Look i p) × ((x : ℕ) → Lower S ranks k (Look i x) → p ≤ x)
  look_do q h d l f t = (
    q,
    refl,
    record { allowed = subst T (sym (told.looks k i q hi h d)) l.here; lower = λ x. after_a_look (λ x. get_or ranks x 0 < get_or ranks k 0) f t },
    λ x m. elim (lt_or_ge x q) [ inl y ↦ absurd (l.none_below x y (look_bit x m.allowed)) | inr y ↦ y ],
  )

-- ---- the smallest byte, kind by kind and setting by setting

family-byte : (p q : ℕ) → p < 21 → byte_of (family p q) ≡ 1 + p * 8 + q
family-byte p q h = byte_of_kind (p / 7) (p % 7) q (omega arith) ∙ omega arith

-- the pair of an act
pair_of : Act → ℕ
pair_of a = kind_of a * 7 + setting_of a

kind_small : (a : Act) → kind_of a < 3
kind_small (Set i q false) = lit< tt
kind_small (Set i q true) = lit< tt
kind_small (Look i q) = lit< tt

pair_small : (a : Act) → setting_of a < 7 → pair_of a < 21
unfolding pair_of
pair_small a h = let k = kind_small a in omega arith

pair_family : (a : Act) → setting_of a < 7 → family (pair_of a) (post_of a) ≡ a
unfolding pair_of
pair_family a h = ap₂ (λ (x y : ℕ). of_kind x y (post_of a)) (digits_div (kind_of a) h) (digits_mod (kind_of a) h) ∙ of_kind_of a

post-family : (p q : ℕ) → post_of (family p q) ≡ q
post-family p q = post_of_kind (p / 7) (p % 7) q

-- no act of the pairs below p leads lower
abbrev pub NoneTo : System → List ℕ → ℕ → ℕ → Type 0
NoneTo S ranks k p = (x : ℕ) → x < p → (q : ℕ) → Lower S ranks k (family x q) → ⊥

module _ {n : ℕ} {sets looks : List (List ℕ)} {ranks : List ℕ} {S : System} (told : TablesTell n sets looks ranks S) (k : ℕ) (hk : k < 7 ^ n) where
  seven : (a : Act) → Lower S ranks k a → setting_of a < 7
  seven a l = omega (arith, told.law.setting_of_case k a l.allowed, told.few)

  pub none_left : (p : ℕ) → 21 ≤ p → NoneTo S ranks k p → (a : Act) → Lower S ranks k a → ⊥
  none_left p h f a l =
      f (pair_of a) (omega (arith, pair_small a (seven a l))) (post_of a) (subst (Lower S ranks k) (sym (pair_family a (seven a l))) l)

  pub smallest : (p q : ℕ) (a : Act) → p < 21 → NoneTo S ranks k p → a ≡ family p q → Lower S ranks k (family p q) → ((x : ℕ) → Lower S ranks k (family p x) → q ≤ x) → Chosen S k a
  smallest p q a hp f e l least =
      subst (Chosen S k) (sym e)
      (chosen (numbers_closed told.law) told.ranked k (family p q) hk l
      (λ c m. bytes_le c m (pair_of c) refl))
    where
      bytes_le : (c : Act) (m : Lower S ranks k c) (x : ℕ) → pair_of c ≡ x → byte_of (family p q) ≤ byte_of c
      bytes_le c m x e =
          let here : family x (post_of c) ≡ c = ap (λ (y : ℕ). family y (post_of c)) (sym e) ∙ pair_family c (seven c m) in
          let small : x < 21 = omega (arith, pair_small c (seven c m)) in
          let bc : byte_of c ≡ 1 + x * 8 + post_of c = ap byte_of (sym here) ∙ family-byte x (post_of c) small in
          let bp : byte_of (family p q) ≡ 1 + p * 8 + q = family-byte p q hp in
          elim (lt_or_ge x p) [
            | inl y ↦ absurd (f x y (post_of c) (subst (Lower S ranks k) (sym here) m))
            | inr y ↦ elim (lt_or_ge p x) [
              | inl z ↦ omega (arith, bc, bp, told.law.post_of_case k (family p q) l.allowed, post-family p q)
              | inr z ↦ (let same : x ≡ p = omega arith in
                  omega (
                    arith,
                    bc,
                    bp,
                    least (post_of c) (subst (λ (y : ℕ). Lower S ranks k (family y (post_of c))) same (subst (Lower S ranks k) (sym here) m)),
                  ))
            ]
          ]

-- the digit as the knowledge type tells it
pub digit_at : (k i : ℕ) {ds : List ℕ} {d : ℕ} → k < 7 ^ 7 → ds ≡ digits_of k → d ≡ digit_in ds i → d ≡ digit 7 k i
digit_at k i h e d = d ∙ ap (λ (xs : List ℕ). digit_in xs i) e ∙ ap (λ (f : ℕ → ℕ). f i) (digits_are k h)
