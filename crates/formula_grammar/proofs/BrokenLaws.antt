-- Where a reader finds no part, from what its callees found: a break inside is the break of the whole, and since one text alone is the part that stands at
-- a place, none stands where the part that begins there is not followed as it must be.
use mathlib.Core.Path.{◌≡◌, refl, sym, ap, ◌∙◌, subst}
use mathlib.Core.Logic.{inl, inr}
use mathlib.Core.List.{List, [], ◌∷◌, ◌++◌, append_assoc}
use mathlib.Core.Bool.{Bool, true, false, not, ◌||◌, cond}
use Rattle.std.specs.Prelude.{Result, Err}
use Prim.Native.Nat.{ℕ, suc, ◌+◌, ◌≤◌, ◌<◌}
use native.Mathlib.Numerals.{add-one}
use native.Mathlib.Omega.{arith}
use lib.Dec.{T, eqb}
use lib.ListN.{length, get_or, drop, drop_of_length-le}
use lib.Seq.{drop-cons, get_or-drop}
use borrow.Author.Tests.{ne_eqb, le-leb}
use Rattle.ground.proofs.Bools.{T→false, or_left, or_right, both, eq→eqb, lt_or_ge}
use Rattle.formula_grammar.specs.Grammar.{Kind, sum, product, unit, Sentence, letter, nought, one, negated, bracketed, one_unit, unit_and, one_product, product_or, text}
use Rattle.formula_grammar.specs.Signs.{is_letter}
use Rattle.formula_grammar.specs.Automaton as A
use Rattle.formula_grammar.specs.Automaton.{State, wants, dead, step, is_atom, breaks, ends, verdict, stops, Parsed, NoPart, Parses}
use Rattle.formula_grammar.specs.declared.parts.Part.{Part}
use Rattle.formula_table.specs.declared.Truths.{Truths}
use Rattle.formula_grammar.proofs.Automaton.{verdict-text, verdict_dies}
use Rattle.formula_grammar.proofs.Meaning.{Ends, heads, tails, same}
use Rattle.formula_grammar.proofs.ScanLaws.{letter-high}
use Rattle.formula_grammar.proofs.PartLaws.{from_byte}

-- what a reader ensures of its answer, once the answer is known
pub as_broken : (k : Kind) (s : List ℕ) (i : ℕ) {r : Result Part ℕ} {p : ℕ} → r ≡ Err p → Parses k s i r → NoPart k s i p
as_broken k s i e p = subst (Parses k s i) e p

-- ---- steps of the verdict

verdict-not : (d i : ℕ) (t : List ℕ) → verdict (wants d) i (126 ∷ t) ≡ verdict (wants d) (i + 1) t
unfolding verdict step
verdict-not d i t = ap (λ (j : ℕ). verdict (wants d) j t) (sym (add-one i))

verdict_open : (d i : ℕ) (t : List ℕ) → verdict (wants d) i (40 ∷ t) ≡ verdict (wants (suc d)) (i + 1) t
unfolding verdict step
verdict_open d i t = ap (λ (j : ℕ). verdict (wants (suc d)) j t) (sym (add-one i))

verdict_and : (d i : ℕ) (t : List ℕ) → verdict (A.has d) i (38 ∷ t) ≡ verdict (wants d) (i + 1) t
unfolding verdict step
verdict_and d i t = ap (λ (j : ℕ). verdict (wants d) j t) (sym (add-one i))

verdict_or : (d i : ℕ) (t : List ℕ) → verdict (A.has d) i (124 ∷ t) ≡ verdict (wants d) (i + 1) t
unfolding verdict step
verdict_or d i t = ap (λ (j : ℕ). verdict (wants d) j t) (sym (add-one i))

-- a part that was read leads to what is judged after it
module _ {k : Kind} {s : List ℕ} {i : ℕ} {w : Truths} {next : ℕ} (p : Parsed k s i w next) where
  past_part : (d : ℕ) → verdict (wants d) i (drop i s) ≡ verdict (A.has d) next (drop next s)
  past_part d =
      ap (verdict (wants d) i) p.spans ∙ verdict-text p.sentence d i (drop next s) ∙ ap (λ (j : ℕ). verdict (A.has d) j (drop next s)) (sym p.until)

-- where a byte kills, or the text ends with brackets open, it breaks there
breaks-here : (st : State) (s : List ℕ) (i : ℕ) → (i < length s → step st (get_or s i 0) ≡ dead) → (length s ≤ i → ends st i ≡ breaks i) → verdict st i (drop i s) ≡ breaks i
unfolding verdict
breaks-here st s i f g = elim (lt_or_ge i (length s)) [
  | inl h ↦ ap (verdict st i) (drop-cons s i 0 h) ∙ verdict_dies st i (get_or s i 0) (drop (suc i) s) (f h)
  | inr h ↦ ap (verdict st i) (drop_of_length-le s h) ∙ g h
]

-- ---- the part that stands at a place

-- the byte that begins what is left
first-left : (s : List ℕ) (i : ℕ) → get_or (drop i s) 0 0 ≡ get_or s i 0
first-left s i = get_or-drop i s 0 0 ∙ ap (λ (j : ℕ). get_or s j 0) (omega arith)

-- what may follow a part, by the test that its reader makes
pub ends_by : (k : Kind) (x : List ℕ) → T (stops k (get_or x 0 0)) → Ends k x
unfolding stops
ends_by unit x t = tt
ends_by product x t = λ e. both (eqb (get_or x 0 0) 38) (eq→eqb e) t
ends_by sum x t =
    let a : Bool = eqb (get_or x 0 0) 38 in
    let b : Bool = eqb (get_or x 0 0) 124 in
    (λ e. both (a || b) (or_left a b (eq→eqb e)) t, λ e. both (a || b) (or_right a b (eq→eqb e)) t)

-- a part that was read is the only one: whatever part stands there, the same is left after it
module _ {k : Kind} {s : List ℕ} {i : ℕ} {w : Truths} {next : ℕ} (p : Parsed k s i w next) where
  pub stops-there : T (stops k (get_or (drop next s) 0 0))
  stops-there = subst (λ (c : ℕ). T (stops k c)) (sym (first-left s next)) p.stopped

  pub ends_there : Ends k (drop next s)
  ends_there = ends_by k (drop next s) stops-there

  left_after : (x : Sentence k) (rest : List ℕ) → drop i s ≡ text x ++ rest → Ends k rest → rest ≡ drop next s
  left_after x rest e t = (same x p.sentence rest (drop next s) t ends_there (sym e ∙ p.spans)).1

  -- so it is followed by the byte that was found
  found_after : (x : Sentence k) (rest : List ℕ) → drop i s ≡ text x ++ rest → Ends k rest → get_or rest 0 0 ≡ get_or s next 0
  found_after x rest e t = ap (λ (l : List ℕ). get_or l 0 0) (left_after x rest e t) ∙ first-left s next

-- ---- units

-- a unit that begins with `~`, or with `(`
not_unit : (x : Sentence unit) (t rest : List ℕ) → 126 ∷ t ≡ text x ++ rest → (y : Sentence unit) × (t ≡ text y ++ rest)
unfolding text
not_unit (letter j h) t rest e = absurd (omega (arith, heads e))
not_unit nought t rest e = absurd (omega (arith, heads e))
not_unit one t rest e = absurd (omega (arith, heads e))
not_unit (negated y) t rest e = (y, tails e)
not_unit (bracketed y) t rest e = absurd (omega (arith, heads e))

open_unit : (x : Sentence unit) (t rest : List ℕ) → 40 ∷ t ≡ text x ++ rest → (y : Sentence sum) × (t ≡ text y ++ 41 ∷ rest)
unfolding text
open_unit (letter j h) t rest e = absurd (omega (arith, heads e))
open_unit nought t rest e = absurd (omega (arith, heads e))
open_unit one t rest e = absurd (omega (arith, heads e))
open_unit (negated y) t rest e = absurd (omega (arith, heads e))
open_unit (bracketed y) t rest e = (y, tails e ∙ append_assoc (text y) (41 ∷ []) rest)

pub negated-broken : (s : List ℕ) (i : ℕ) {p : ℕ} → get_or s i 0 ≡ 126 → NoPart unit s (i + 1) p → NoPart unit s i p
negated-broken s i e f = record {
  none = λ x rest q t. (let y = not_unit x (drop (i + 1) s) rest (sym (from_byte s i 125 e) ∙ q) in f.none y.0 rest y.1 t);
  broken = λ d. ap (verdict (wants d) i) (from_byte s i 125 e) ∙ verdict-not d i (drop (i + 1) s) ∙ f.broken d;
}

pub bracketed-broken : (s : List ℕ) (i : ℕ) {p : ℕ} → get_or s i 0 ≡ 40 → NoPart sum s (i + 1) p → NoPart unit s i p
unfolding stops
bracketed-broken s i e f = record {
  none = λ x rest q t. (let y = open_unit x (drop (i + 1) s) rest (sym (from_byte s i 39 e) ∙ q) in f.none y.0 (41 ∷ rest) y.1 tt);
  broken = λ d. ap (verdict (wants d) i) (from_byte s i 39 e) ∙ verdict_open d i (drop (i + 1) s) ∙ f.broken (suc d);
}

-- after a whole sum, a byte that is no `)` kills
sum_dies : (d c : ℕ) → T (stops sum c) → eqb c 41 ≡ false → step (A.has d) c ≡ dead
unfolding step stops
sum_dies d c t e = rw (T→false (eqb c 38 || eqb c 124) t, e)

pub unclosed : (s : List ℕ) (i : ℕ) {w : Truths} {next : ℕ} → get_or s i 0 ≡ 40 → Parsed sum s (i + 1) w next → (get_or s next 0 ≡ 41 → ⊥) → NoPart unit s i next
unclosed s i {w} {next} e p c = record {
  none = λ x rest q t. (let y = open_unit x (drop (i + 1) s) rest (sym (from_byte s i 39 e) ∙ q) in
      c (sym (found_after p y.0 (41 ∷ rest) y.1 (λ z. omega (arith, z), λ z. omega (arith, z)))));
  broken = λ d. ap (verdict (wants d) i) (from_byte s i 39 e) ∙ verdict_open d i (drop (i + 1) s) ∙ past_part p (suc d)
      ∙ breaks-here (A.has (suc d)) s next (λ l. sum_dies (suc d) (get_or s next 0) p.stopped (ne_eqb (get_or s next 0) 41 c)) (λ l. refl);
}

a_letter : (j : ℕ) → j < 7 → is_letter (97 + j) ≡ true
a_letter j h = sym (letter-high (97 + j) (omega arith)) ∙ le-leb (97 + j) 103 (omega arith)

unlike : (b : Bool) → b ≡ true → b ≡ false → ⊥
unlike b e f = both b (subst T (sym e) tt) (subst (λ (x : Bool). T (not x)) (sym f) tt)

pub no_atom : (s : List ℕ) (i : ℕ) → (get_or s i 0 ≡ 126 → ⊥) → (get_or s i 0 ≡ 40 → ⊥) → (get_or s i 0 ≡ 48 → ⊥) → (get_or s i 0 ≡ 49 → ⊥) → is_letter (get_or s i 0) ≡ false → NoPart unit s i i
unfolding step is_atom text
no_atom s i a b e f g = record {
  none = λ x rest q t. begins x rest (sym (first-left s i) ∙ ap (λ (l : List ℕ). get_or l 0 0) q);
  broken = λ d. breaks-here (wants d) s i (λ l. rw (ne_eqb (get_or s i 0) 126 a, ne_eqb (get_or s i 0) 40 b, ne_eqb (get_or s i 0) 48 e, ne_eqb (get_or s i 0) 49 f, g)) (λ l. refl);
}
  where
    begins : (x : Sentence unit) (rest : List ℕ) → get_or s i 0 ≡ get_or (text x ++ rest) 0 0 → ⊥
    begins (letter j h) rest q = unlike (is_letter (get_or s i 0)) (ap is_letter q ∙ a_letter j h) g
    begins nought rest q = e q
    begins one rest q = f q
    begins (negated y) rest q = a q
    begins (bracketed y) rest q = b q

-- ---- products and sums

first_of : (a b : Bool) → T (not (a || b)) → T (not a)
first_of false b t = tt
first_of true b t = elim t [ ]

-- no unit, so no product; no product, so no sum
pub no_unit : {s : List ℕ} {i p : ℕ} → NoPart unit s i p → NoPart product s i p
unfolding text stops
no_unit {s} {i} f = record { none = absent; broken = f.broken }
  where
    absent : (x : Sentence product) (rest : List ℕ) → drop i s ≡ text x ++ rest → T (stops product (get_or rest 0 0)) → ⊥
    absent (one_unit u) rest q t = f.none u rest q tt
    absent (unit_and u y) rest q t = f.none u (38 ∷ text y ++ rest) (q ∙ append_assoc (text u) (38 ∷ text y) rest) tt

pub no_product : {s : List ℕ} {i p : ℕ} → NoPart product s i p → NoPart sum s i p
unfolding text stops
no_product {s} {i} f = record { none = absent; broken = f.broken }
  where
    absent : (x : Sentence sum) (rest : List ℕ) → drop i s ≡ text x ++ rest → T (stops sum (get_or rest 0 0)) → ⊥
    absent (one_product u) rest q t = f.none u rest q (first_of (eqb (get_or rest 0 0) 38) (eqb (get_or rest 0 0) 124) t)
    absent (product_or u y) rest q t = f.none u (124 ∷ text y ++ rest) (q ∙ append_assoc (text u) (124 ∷ text y) rest) tt

-- a unit and `&`, and no product after them; a product and `|`, and no sum after them
pub product_broken : {s : List ℕ} {i : ℕ} {w : Truths} {next p : ℕ} → Parsed unit s i w next → get_or s next 0 ≡ 38 → NoPart product s (next + 1) p → NoPart product s i p
unfolding text
product_broken {s} {i} {w} {next} a e f = record {
  none = absent;
  broken = λ d. past_part a d ∙ ap (verdict (A.has d) next) (from_byte s next 37 e) ∙ verdict_and d next (drop (next + 1) s) ∙ f.broken d;
}
  where
    absent : (x : Sentence product) (rest : List ℕ) → drop i s ≡ text x ++ rest → T (stops product (get_or rest 0 0)) → ⊥
    absent (one_unit u) rest q t = ends_by product rest t (found_after a u rest q tt ∙ e)
    absent (unit_and u y) rest q t =
        let l = left_after a u (38 ∷ text y ++ rest) (q ∙ append_assoc (text u) (38 ∷ text y) rest) tt in
        f.none y rest (tails (sym (from_byte s next 37 e) ∙ sym l)) t

pub sum-broken : {s : List ℕ} {i : ℕ} {w : Truths} {next p : ℕ} → Parsed product s i w next → get_or s next 0 ≡ 124 → NoPart sum s (next + 1) p → NoPart sum s i p
unfolding text
sum-broken {s} {i} {w} {next} a e f = record {
  none = absent;
  broken = λ d. past_part a d ∙ ap (verdict (A.has d) next) (from_byte s next 123 e) ∙ verdict_or d next (drop (next + 1) s) ∙ f.broken d;
}
  where
    absent : (x : Sentence sum) (rest : List ℕ) → drop i s ≡ text x ++ rest → T (stops sum (get_or rest 0 0)) → ⊥
    absent (one_product u) rest q t = (let m = ends_by sum rest t in m.1 (found_after a u rest q m.0 ∙ e))
    absent (product_or u y) rest q t =
        let l = left_after a u (124 ∷ text y ++ rest) (q ∙ append_assoc (text u) (124 ∷ text y) rest) (λ z. omega (arith, z)) in
        f.none y rest (tails (sym (from_byte s next 123 e) ∙ sym l)) t

-- ---- the whole text

close_dies : (c : ℕ) → T (stops sum c) → step (A.has 0) c ≡ dead
unfolding step stops
close_dies c t = rw (T→false (eqb c 38 || eqb c 124) t) (either (eqb c 41))
  where
    either : (b : Bool) → cond b dead dead ≡ dead
    either true = refl
    either false = refl

-- a sum that ends before the text breaks it there: nothing is open that `)` could close
pub sum-short : {s : List ℕ} {w : Truths} {next : ℕ} → Parsed sum s 0 w next → next < length s → verdict (wants 0) 0 s ≡ breaks next
sum-short {s} {w} {next} p l =
    past_part p 0 ∙ breaks-here (A.has 0) s next (λ h. close_dies (get_or s next 0) p.stopped) (λ h. absurd (omega arith))
