-- What each reader has found, from what its callees found: a part grows by the bytes around it, and a break inside is the break of the whole.
use mathlib.Core.Path.{◌≡◌, refl, sym, ap, ap₂, ◌∙◌, subst}
use mathlib.Core.Logic.{inl, inr}
use mathlib.Core.List.{List, [], ◌∷◌, ◌++◌, append_assoc, append-nil}
use mathlib.Core.Bool.{Bool, true, false, not, ◌&&◌, ◌||◌}
use Rattle.std.specs.Prelude.{Result, Ok}
use Prim.Native.Nat.{ℕ, suc, ◌+◌, ◌-◌, ◌≤◌, ◌<◌}
use native.Mathlib.Numerals.{add-one}
use native.Mathlib.Omega.{arith}
use lib.Dec.{eqb}
use lib.ListN.{length, get_or, drop, length-append, drop_of_length-le, get_or-eq_default}
use lib.Seq.{drop-cons}
use borrow.Author.Tests.{ne_eqb}
use Rattle.ground.specs.Digits.{bit}
use Rattle.ground.proofs.Bools.{T→false, lt_or_ge}
use Rattle.formula_grammar.specs.Grammar.{Kind, sum, product, unit, Sentence, letter, nought, one, negated, bracketed, one_unit, unit_and, one_product, product_or, text, meaning}
use Rattle.formula_table.specs.Two.{has, WordsOf}
use Rattle.formula_grammar.specs.Automaton.{stops, Parsed, Parses}
use Rattle.formula_grammar.specs.declared.parts.Part.{Part}
use Rattle.formula_table.specs.declared.Truths.{Truths}

-- what a reader ensures of its answer, once the answer is known
pub as_read : (k : Kind) (s : List ℕ) (i : ℕ) {r : Result Part ℕ} {part : Part} → r ≡ Ok part → Parses k s i r → Parsed k s i part.truths part.end
as_read k s i e p = subst (Parses k s i) e p

-- a byte that is not 0 stands inside the text
pub inside : (s : List ℕ) (i c : ℕ) → get_or s i 0 ≡ suc c → i < length s
inside s i c e = elim (lt_or_ge i (length s)) [
  | inl h ↦ h
  | inr h ↦ absurd (omega (arith, get_or-eq_default s 0 h))
]

-- and so does a letter
pub beyond : (s : List ℕ) (i c : ℕ) → c ≡ get_or s i 0 → 97 ≤ c → i < length s
beyond s i c e h = elim (lt_or_ge i (length s)) [
  | inl l ↦ l
  | inr l ↦ absurd (omega (arith, get_or-eq_default s 0 l))
]

pub from_byte : (s : List ℕ) (i c : ℕ) → get_or s i 0 ≡ suc c → drop i s ≡ suc c ∷ drop (i + 1) s
from_byte s i c e = drop-cons s i 0 (inside s i c e) ∙ ap₂ (λ (x j : ℕ). x ∷ drop j s) e (sym (add-one i))

-- ---- units

pub negated-read : {s : List ℕ} {i : ℕ} {w : Truths} {next : ℕ} (u : Truths) → get_or s i 0 ≡ 126 → Parsed unit s (i + 1) w next → WordsOf u (λ v. not (has w v)) → Parsed unit s i u next
unfolding text meaning WordsOf stops
negated-read {s} {i} u e p h = record {
  sentence = negated p.sentence;
  spans = from_byte s i 125 e ∙ ap (λ (t : List ℕ). 126 ∷ t) p.spans;
  until = omega (arith, p.until);
  holds = λ v l. h v l ∙ ap not (p.holds v l);
  stopped = tt;
}

pub bracketed-read : {s : List ℕ} {i : ℕ} {w : Truths} {next : ℕ} → get_or s i 0 ≡ 40 → Parsed sum s (i + 1) w next → get_or s next 0 ≡ 41 → Parsed unit s i w (next + 1)
unfolding text meaning stops
bracketed-read {s} {i} {w} {next} e p c = record {
  sentence = bracketed p.sentence;
  spans = from_byte s i 39 e
      ∙ ap (λ (t : List ℕ). 40 ∷ t)
      (p.spans ∙ ap (λ (t : List ℕ). text p.sentence ++ t) (from_byte s next 40 c)
      ∙ sym (append_assoc (text p.sentence) (41 ∷ []) (drop (next + 1) s)));
  until = omega (arith, p.until, length-append (text p.sentence) (41 ∷ []));
  holds = p.holds;
  stopped = tt;
}

-- one byte that is a unit by itself
atom_read : (u : Sentence unit) (w : Truths) {s : List ℕ} {i c : ℕ} → get_or s i 0 ≡ suc c → text u ≡ suc c ∷ [] → WordsOf w (meaning u) → Parsed unit s i w (i + 1)
unfolding stops
atom_read u w {s} {i} {c} e t h = record {
  sentence = u;
  spans = from_byte s i c e ∙ ap (λ (x : List ℕ). x ++ drop (i + 1) s) (sym t);
  until = omega (arith, ap length t);
  holds = h;
  stopped = tt;
}

pub nought-read : {s : List ℕ} {i : ℕ} (w : Truths) → get_or s i 0 ≡ 48 → WordsOf w (λ v. false) → Parsed unit s i w (i + 1)
unfolding text meaning
nought-read w e h = atom_read nought w e refl h

pub one-read : {s : List ℕ} {i : ℕ} (w : Truths) → get_or s i 0 ≡ 49 → WordsOf w (λ v. true) → Parsed unit s i w (i + 1)
unfolding text meaning
one-read w e h = atom_read one w e refl h

pub letter-read : {s : List ℕ} {i : ℕ} (w : Truths) (c : ℕ) → get_or s i 0 ≡ c → 97 ≤ c → c - 97 < 7 → WordsOf w (λ v. bit v (c - 97)) → Parsed unit s i w (i + 1)
unfolding text meaning
letter-read {s} {i} w c e low high h =
    let number : c ≡ suc (96 + (c - 97)) = omega arith in
    let same : 97 + (c - 97) ≡ suc (96 + (c - 97)) = omega arith in
    atom_read (letter (c - 97) high) w {c = 96 + (c - 97)} (e ∙ number) (ap (λ (x : ℕ). x ∷ []) same) h

-- ---- products and sums

pub product_one : {s : List ℕ} {i : ℕ} {w : Truths} {next : ℕ} → Parsed unit s i w next → (get_or s next 0 ≡ 38 → ⊥) → Parsed product s i w next
unfolding text meaning stops
product_one {s} {next = next} p c = record
    { sentence = one_unit p.sentence; spans = p.spans; until = p.until; holds = p.holds; stopped = rw (ne_eqb (get_or s next 0) 38 c) tt }

pub sum_one : {s : List ℕ} {i : ℕ} {w : Truths} {next : ℕ} → Parsed product s i w next → (get_or s next 0 ≡ 124 → ⊥) → Parsed sum s i w next
unfolding text meaning stops
sum_one {s} {next = next} p c = record {
  sentence = one_product p.sentence;
  spans = p.spans;
  until = p.until;
  holds = p.holds;
  stopped = rw (T→false (eqb (get_or s next 0) 38) p.stopped, ne_eqb (get_or s next 0) 124 c) tt;
}

-- a part, the byte that joins, and more of the joined kind
module _ (c : ℕ) (k l : Kind) (join : Sentence k → Sentence l → Sentence l) (g : Bool → Bool → Bool)
    (writes : (a : Sentence k) (b : Sentence l) → text (join a b) ≡ text a ++ suc c ∷ text b)
    (tells : (a : Sentence k) (b : Sentence l) (v : ℕ) → meaning (join a b) v ≡ g (meaning a v) (meaning b v)) where
  joined : {s : List ℕ} {i : ℕ} {w x : Truths} {next end : ℕ} (u : Truths) → Parsed k s i w next → get_or s next 0 ≡ suc c → Parsed l s (next + 1) x end
      → WordsOf u (λ v. g (has w v) (has x v)) → Parsed l s i u end
  unfolding WordsOf
  joined {s} {i} {w} {x} {next} {end} u p e q h = record {
    sentence = join p.sentence q.sentence;
    spans =
        p.spans ∙ ap (λ (t : List ℕ). text p.sentence ++ t) (from_byte s next c e ∙ ap (λ (t : List ℕ). suc c ∷ t) q.spans)
        ∙ sym (append_assoc (text p.sentence) (suc c ∷ text q.sentence) (drop end s)) ∙ ap (λ (t : List ℕ). t ++ drop end s) (sym (writes p.sentence q.sentence));
    until = omega (arith, p.until, q.until, ap length (writes p.sentence q.sentence), length-append (text p.sentence) (suc c ∷ text q.sentence));
    holds = λ v m. h v m ∙ ap₂ g (p.holds v m) (q.holds v m) ∙ sym (tells p.sentence q.sentence v);
    stopped = q.stopped;
  }

pub product_more : {s : List ℕ} {i : ℕ} {w x : Truths} {next end : ℕ} (u : Truths) → Parsed unit s i w next → get_or s next 0 ≡ 38 → Parsed product s (next + 1) x end
    → WordsOf u (λ v. has w v && has x v) → Parsed product s i u end
unfolding text meaning
product_more u p e q h = joined 37 unit product unit_and ◌&&◌ (λ a b. refl) (λ a b v. refl) u p e q h

pub sum_more : {s : List ℕ} {i : ℕ} {w x : Truths} {next end : ℕ} (u : Truths) → Parsed product s i w next → get_or s next 0 ≡ 124 → Parsed sum s (next + 1) x end
    → WordsOf u (λ v. has w v || has x v) → Parsed sum s i u end
unfolding text meaning
sum_more u p e q h = joined 123 product sum product_or ◌||◌ (λ a b. refl) (λ a b v. refl) u p e q h

-- ---- the whole text

pub sum-whole : {s : List ℕ} {w : Truths} {next : ℕ} (p : Parsed sum s 0 w next) → length s ≤ next → text p.sentence ≡ s
sum-whole {s} {w} {next} p l = sym (p.spans ∙ ap (λ (t : List ℕ). text p.sentence ++ t) (drop_of_length-le s l) ∙ append-nil (text p.sentence))
