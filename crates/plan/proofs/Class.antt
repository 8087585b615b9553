-- States with the same unknown settings and the same start knowledge form a class of 2 ^ (known settings), and an act stays in the
-- class or makes a setting known: digits 1 and 2, 3 and 4, 5 and 6 are pairs, which sets do not leave.
use mathlib.Core.Path.{◌≡◌, refl, sym, ap, ap₂, ◌∙◌}
use mathlib.Core.Logic.{◌⊎◌, inl, inr}
use mathlib.Core.List.Memᴰ
use mathlib.Core.List.{List, [], ◌∷◌, ◌++◌, map, Memᴰ}
use mathlib.Core.Bool.{Bool, true, false, ◌||◌}
use Prim.Native.Nat.{ℕ, zero, suc, ◌+◌, ◌*◌, ◌/◌, ◌%◌, ◌-◌, ◌^◌, ◌≤◌, ◌<◌}
use native.Mathlib.Nat.{mod-lt, not-suc-le-zero, le_of_suc-le-suc, div-add-mod', pow-zero, pow-succ'}
use native.Mathlib.Omega.{arith}
use lib.Arith.{digits_div, digits_mod}
use lib.Dec.{T, eqb, eqb→eq}
use lib.ListN.{length, length-append, length-map}
use borrow.Author.Tests.{ne_eqb}
use Rattle.ground.specs.Digits.{digit, put}
use Rattle.ground.specs.Search.{all}
use Rattle.ground.proofs.Bits.{digit_zero, digit-suc}
use Rattle.ground.proofs.Bools.{lt_or_ge}
use Rattle.ground.proofs.Digits.{digit_lt}
use Rattle.ground.proofs.Search.{all-at}
use Rattle.knowledge_acts.specs.Seven.{after_set}
use Rattle.knowledge_acts.specs.Acts.{set_to}
use Rattle.knowledge_acts.specs.declared.act.Act.{Act}
use Rattle.knowledge_acts.specs.declared.act.Act.TheVariants.{Set, Look}
use Rattle.plan.specs.Plans.{System, may, Lawful, Outcome, after_set_case, after_look}
use Rattle.plan.specs.Pending.{nought, unknowns}
use Rattle.knowledge_acts.proofs.Seven.{set_lt}
use Rattle.plan.proofs.Unknowns.{seven, unknowns_le, unknowns-set, unknowns_look}

-- which pair a digit is of: 0 stands alone
abbrev pair_of : ℕ → ℕ
pair_of d = (d + 1) / 2

-- the digits of a digit's pair
abbrev pair : ℕ → List ℕ
pair zero = 0 ∷ []
pair (suc d) = (pair_of (suc d) * 2 - 1) ∷ (pair_of (suc d) * 2) ∷ []

in_pair : (d e : ℕ) → pair_of d ≡ pair_of e → Memᴰ e (pair d)
in_pair zero e h = let z : e ≡ 0 = omega arith in Memᴰ.head z
in_pair (suc d) e h = elim (lt_or_ge e (pair_of (suc d) * 2)) [
  | inl l ↦ (let z : e ≡ pair_of (suc d) * 2 - 1 = omega arith in Memᴰ.head z)
  | inr l ↦ (let z : e ≡ pair_of (suc d) * 2 = omega arith in Memᴰ.tail (Memᴰ.head z))
]

same-nought : (d e : ℕ) → pair_of d ≡ pair_of e → nought d ≡ nought e
same-nought zero zero h = refl
same-nought zero (suc e) h = absurd (omega arith)
same-nought (suc d) zero h = absurd (omega arith)
same-nought (suc d) (suc e) h = refl

-- y is in the class of k
abbrev pub Mates : ℕ → ℕ → ℕ → Type 0
Mates zero k y = k ≡ y
Mates (suc n) k y = (pair_of (k % 7) ≡ pair_of (y % 7)) × Mates n (k / 7) (y / 7)

pub mates_self : (n k : ℕ) → Mates n k k
mates_self zero k = refl
mates_self (suc n) k = (refl, mates_self n (k / 7))

pub mates_unknowns : (n k y : ℕ) → Mates n k y → unknowns n k ≡ unknowns n y
unfolding unknowns
mates_unknowns zero k y m = refl
mates_unknowns (suc n) k y m = ap₂ ◌+◌ (same-nought (k % 7) (y % 7) m.0) (mates_unknowns n (k / 7) (y / 7) m.1)

mates_put : (n k y i d : ℕ) → Mates n k y → i < n → d < 7 → pair_of (digit 7 y i) ≡ pair_of d → Mates n k (put 7 y i d)
unfolding put
mates_put zero k y i d m l h e = absurd (not-suc-le-zero l)
mates_put (suc n) k y zero d m l h e =
    rw (digits_mod (y / 7) h, digits_div (y / 7) h) (m.0 ∙ rw digit_zero at e, m.1)
mates_put (suc n) k y (suc i) d m l h e =
    let low = mod-lt y seven in
    rw (digits_mod (put 7 (y / 7) i d) low, digits_div (put 7 (y / 7) i d) low)
    (m.0, mates_put n (k / 7) (y / 7) i d m.1 (le_of_suc-le-suc l) h (rw digit-suc at e))

-- each number of cs with each digit of ds behind it
abbrev cross : List ℕ → List ℕ → List ℕ
cross [] cs = []
cross (d ∷ ds) cs = map (λ c. c * 7 + d) cs ++ cross ds cs

in-cross : (ds cs : List ℕ) (d c : ℕ) → Memᴰ d ds → Memᴰ c cs → Memᴰ (c * 7 + d) (cross ds cs)
in-cross [] cs d c m l = absurd (Memᴰ.not-nil m)
in-cross (x ∷ ds) cs d c m l = elim (Memᴰ.cases_cons m) [
  | inl e ↦ Memᴰ.append_left {s = map (λ c. c * 7 + x) cs} (cross ds cs) (rw e (Memᴰ.map (λ c. c * 7 + x) l))
  | inr r ↦ Memᴰ.append_right (map (λ c. c * 7 + x) cs) (in-cross ds cs d c r l)
]

-- the class of k, as a list
abbrev pub class : ℕ → ℕ → List ℕ
class zero k = k ∷ []
class (suc n) k = cross (pair (k % 7)) (class n (k / 7))

pub covers : (n k y : ℕ) → Mates n k y → Memᴰ y (class n k)
covers zero k y m = Memᴰ.head (sym m)
covers (suc n) k y m =
    Memᴰ.cast (sym (div-add-mod' y 7))
    (in-cross (pair (k % 7)) (class n (k / 7)) (y % 7) (y / 7) (in_pair (k % 7) (y % 7) m.0) (covers n (k / 7) (y / 7) m.1))

length_cross : (d : ℕ) (cs : List ℕ) (n u : ℕ) → u ≤ n → length cs ≡ 2 ^ (n - u) → length (cross (pair d) cs) ≡ 2 ^ (suc n - (nought d + u))
length_cross zero cs n u l e =
    let same : suc n - (1 + u) ≡ n - u = omega arith in
    simp (same, length-append, length-map) (omega arith)
length_cross (suc d) cs n u l e =
    let same : suc n - (0 + u) ≡ suc (n - u) = omega arith in
    simp (same, length-append, length-map) (omega (arith, pow-succ' 2 (n - u)))

pub class_length : (n k : ℕ) → length (class n k) ≡ 2 ^ (n - unknowns n k)
unfolding unknowns
class_length zero k = sym (pow-zero 2)
class_length (suc n) k = length_cross (k % 7) (class n (k / 7)) n (unknowns n (k / 7)) (unknowns_le n (k / 7)) (class_length n (k / 7))

-- a set of a known setting stays in the pair
pair_set : (d : ℕ) (b : Bool) → d < 7 → (d ≡ 0 → ⊥) → pair_of d ≡ pair_of (after_set d b)
unfolding all after_set
pair_set d false h ne =
    eqb→eq (pair_of d) (pair_of (after_set d false)) (rw (ne_eqb d 0 ne) at (all-at 7 (λ d. eqb d 0 || eqb (pair_of d) (pair_of (after_set d false))) tt d h))
pair_set d true h ne =
    eqb→eq (pair_of d) (pair_of (after_set d true)) (rw (ne_eqb d 0 ne) at (all-at 7 (λ d. eqb d 0 || eqb (pair_of d) (pair_of (after_set d true))) tt d h))

set_stays : (n k y i : ℕ) (b : Bool) → Mates n k y → i < n → Mates n k (set_to y i b) ⊎ (unknowns n (set_to y i b) < unknowns n k)
unfolding set_to
set_stays n k y i b m l = go (digit 7 y i) refl
  where
    small : digit 7 y i < 7
    small = digit_lt seven y i

    go : (d : ℕ) → digit 7 y i ≡ d → Mates n k (set_to y i b) ⊎ (unknowns n (set_to y i b) < unknowns n k)
    go zero e = inr (omega (arith, mates_unknowns n k y m, unknowns-set n y i b l, ap nought e))
    go (suc d) e =
        inl (mates_put n k y i (after_set (digit 7 y i) b) m l (set_lt (digit 7 y i) b small) (pair_set (digit 7 y i) b small (λ z. omega arith)))

-- an act stays in the class or makes a setting known
pub stays : {n : ℕ} {S : System} (law : Lawful n S) (k y x : ℕ) (a : Act) → Mates n k y → T (may S y a) → Outcome y a x
    → Mates n k x ⊎ (unknowns n x < unknowns n k)
stays {n} law k y x a m t (after_set_case i q b) =
    set_stays n k y i b m (law.setting_of_case y (Set i q b) t)
stays {n} law k y x a m t (after_look i q b) =
    inr (omega (arith, mates_unknowns n k y m, unknowns_look n y i b (law.setting_of_case y (Look i q) t) (law.looks_at y i q t)))
