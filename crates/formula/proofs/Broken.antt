-- A text whose verdict is `breaks p` is no sentence, and p is the place that refusal 4 names: alive means that a sentence begins, dead that none does.
use mathlib.Core.Path.{◌≡◌, refl, sym, ap, ◌∙◌, subst}
use mathlib.Core.Logic.{inl, inr, ⊎_elim}
use mathlib.Core.List.{List, [], append-nil}
use Prim.Native.Nat.{ℕ, suc, ◌≤◌}
use native.Mathlib.Omega.{arith}
use lib.ListN.{take, drop, take-append-drop}
use lib.Seq.{take-take}
use Rattle.ground.specs.Search.{Least}
use Rattle.formula_grammar.specs.Grammar.{text, Begins, IsSentence}
use Rattle.formula_grammar.specs.Automaton.{wants, whole, breaks, verdict}
use Rattle.formula_grammar.proofs.Automaton.{verdict-text, stopped}
use Rattle.formula_grammar.proofs.Begins.{begins_less, alive_begins, dead-begins}
use Rattle.formula.specs.Read.{NoSentence}

-- the beginnings of a beginning
begins-take : (s : List ℕ) (i j : ℕ) → i ≤ j → Begins (take j s) → Begins (take i s)
begins-take s i j h b = subst Begins (take-take i j s h) (begins_less (take i (take j s)) (drop i (take j s)) (subst Begins (sym (take-append-drop i (take j s))) b))

begins_prefix : (s : List ℕ) (i : ℕ) → Begins s → Begins (take i s)
begins_prefix s i b = begins_less (take i s) (drop i s) (subst Begins (sym (take-append-drop i s)) b)

pub broken_no_sentence : (s : List ℕ) (p : ℕ) → verdict (wants 0) 0 s ≡ breaks p → IsSentence s → ⊥
unfolding verdict
broken_no_sentence s p v w =
    let z : whole ≡ breaks p = sym (verdict-text w.sentence 0 0 []) ∙ ap (λ (t : List ℕ). verdict (wants 0) 0 t) (append-nil (text w.sentence) ∙ w.written) ∙ v in
    let y : ◌≡◌ {A = ℕ} 0 1 = cc in omega arith

pub broken-place : (s : List ℕ) (p : ℕ) → verdict (wants 0) 0 s ≡ breaks p → Least (NoSentence s) p
broken-place s p v = let none = broken_no_sentence s p v in elim (stopped s (wants 0) 0 p tt v) [
  | inl (j, e, l, a, k) ↦ subst (Least (NoSentence s)) (omega arith) (record {
    here = (none, inl (l, dead-begins (take (suc j) s) k));
    none_below = λ i h x. ⊎_elim (λ y. y.1 (begins-take s (suc i) j h (alive_begins (take j s) a))) (λ y. omega (arith, y, l, h)) x.1;
  })
  | inr (e, a) ↦ subst (Least (NoSentence s)) (omega arith) (record {
    here = (none, inr refl);
    none_below = λ i h x. ⊎_elim (λ y. y.1 (begins_prefix s (suc i) (alive_begins s a))) (λ y. omega (arith, y, h)) x.1;
  })
]
