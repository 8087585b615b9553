-- A text that leaves the automaton alive begins a sentence: each state has a meaning over the grammar, which a step keeps, and a live state is
-- finished with `0` where a unit is due and then by closing the brackets.
use mathlib.Core.Path.{◌≡◌, refl, sym, ap, ◌∙◌, subst}
use mathlib.Core.Logic.{inl, inr}
use mathlib.Core.List.{List, [], ◌∷◌, ◌++◌, append_assoc, append-nil}
use mathlib.Core.Bool.{◌&&◌, ◌||◌, cond}
use Prim.Native.Nat.{ℕ, zero, suc, ◌-◌}
use native.Mathlib.Omega.{arith}
use lib.Dec.{T, eqb, eqb→eq, leb, leb→le}
use Rattle.ground.proofs.Bools.{decide, T→true, T→false, or_out, and_left, and_right}
use Rattle.formula_grammar.specs.Grammar.{sum, product, unit, Sentence, letter, nought, one, negated, bracketed, one_unit, unit_and, one_product, product_or, text, Begins, IsSentence}
use Rattle.formula_grammar.specs.Signs.{is_letter}
use Rattle.formula_grammar.specs.Automaton.{State, wants, has, dead, is_atom, close, step, whole, verdict}
use Rattle.formula_grammar.proofs.Automaton.{run, run-append, run-dead, run-text, alive, whole_run}

-- ---- a sum goes on with `&` or `|` and a unit

and_more : Sentence product → Sentence unit → Sentence product
and_more (one_unit x) u = unit_and x (one_unit u)
and_more (unit_and x p) u = unit_and x (and_more p u)

and_unit : Sentence sum → Sentence unit → Sentence sum
and_unit (one_product p) u = one_product (and_more p u)
and_unit (product_or p s) u = product_or p (and_unit s u)

or_unit : Sentence sum → Sentence unit → Sentence sum
or_unit (one_product p) u = product_or p (one_product (one_unit u))
or_unit (product_or p s) u = product_or p (or_unit s u)

and_more-text : (p : Sentence product) (u : Sentence unit) → text (and_more p u) ≡ text p ++ 38 ∷ text u
unfolding text and_more
and_more-text (one_unit x) u = refl
and_more-text (unit_and x p) u = ap (λ (t : List ℕ). text x ++ 38 ∷ t) (and_more-text p u) ∙ sym (append_assoc (text x) (38 ∷ text p) (38 ∷ text u))

and_unit_text : (s : Sentence sum) (u : Sentence unit) → text (and_unit s u) ≡ text s ++ 38 ∷ text u
unfolding text and_unit
and_unit_text (one_product p) u = and_more-text p u
and_unit_text (product_or p s) u = ap (λ (t : List ℕ). text p ++ 124 ∷ t) (and_unit_text s u) ∙ sym (append_assoc (text p) (124 ∷ text s) (38 ∷ text u))

or_unit_text : (s : Sentence sum) (u : Sentence unit) → text (or_unit s u) ≡ text s ++ 124 ∷ text u
unfolding text or_unit
or_unit_text (one_product p) u = refl
or_unit_text (product_or p s) u = ap (λ (t : List ℕ). text p ++ 124 ∷ t) (or_unit_text s u) ∙ sym (append_assoc (text p) (124 ∷ text s) (124 ∷ text u))

-- ---- what a state says of the text before it

-- with d brackets open, p ends in a whole sum: after each open bracket stands a sum, and what comes before the bracket takes any unit
abbrev Has : ℕ → List ℕ → Type 0
Has zero p = (e : Sentence sum) × (text e ≡ p)
Has (suc d) p = (q : List ℕ) × (e : Sentence sum) × ((u : Sentence unit) → Has d (q ++ text u)) × (q ++ 40 ∷ text e ≡ p)

-- and here a unit is due
abbrev Wants : ℕ → List ℕ → Type 0
Wants d p = (u : Sentence unit) → Has d (p ++ text u)

abbrev Means : State → List ℕ → Type 0
Means (wants d) p = Wants d p
Means (has d) p = Has d p
Means dead p = Unit {0}

-- p and then c and then t
onward : (p t : List ℕ) (c : ℕ) → (p ++ c ∷ []) ++ t ≡ p ++ c ∷ t
onward p t c = append_assoc p (c ∷ []) t

-- `&` or `|` after a sum
module _ (c : ℕ) (join : Sentence sum → Sentence unit → Sentence sum) (joined : (s : Sentence sum) (u : Sentence unit) → text (join s u) ≡ text s ++ c ∷ text u) where
  join_wants : (d : ℕ) (p : List ℕ) → Has d p → Wants d (p ++ c ∷ [])
  join_wants zero p (e, q) u = (join e u, joined e u ∙ ap (λ (t : List ℕ). t ++ c ∷ text u) q ∙ sym (onward p (text u) c))
  join_wants (suc d) p (q, e, w, h) u =
      (q, join e u, w, ap (λ (t : List ℕ). q ++ 40 ∷ t) (joined e u) ∙ sym (append_assoc q (40 ∷ text e) (c ∷ text u)) ∙ ap (λ (t : List ℕ). t ++ c ∷ text u) h ∙ sym (onward p (text u) c))

open_wants : (d : ℕ) (p : List ℕ) → Wants d p → Wants (suc d) (p ++ 40 ∷ [])
unfolding text
open_wants d p w u = (p, one_product (one_unit u), w, sym (onward p (text u) 40))

close-has : (d : ℕ) (p : List ℕ) → Has (suc d) p → Has d (p ++ 41 ∷ [])
unfolding text
close-has d p (q, e, w, h) = subst (Has d) (sym (append_assoc q (40 ∷ text e) (41 ∷ [])) ∙ ap (λ (t : List ℕ). t ++ 41 ∷ []) h) (w (bracketed e))

atom_unit : (c : ℕ) → T (is_atom c) → (u : Sentence unit) × (text u ≡ c ∷ [])
unfolding text is_atom is_letter
atom_unit c h =
    elim (or_out (eqb c 48 || eqb c 49) (leb 97 c && leb c 103) h) [
      | inl k ↦ elim (or_out (eqb c 48) (eqb c 49) k) [
        | inl e ↦ (nought, ap (λ (x : ℕ). x ∷ []) (sym (eqb→eq c 48 e)))
        | inr e ↦ (one, ap (λ (x : ℕ). x ∷ []) (sym (eqb→eq c 49 e)))
      ]
      | inr k ↦ (let low = leb→le 97 c (and_left (leb 97 c) (leb c 103) k) in
          let high = leb→le c 103 (and_right (leb 97 c) (leb c 103) k) in
          (letter (c - 97) (omega arith), ap (λ (x : ℕ). x ∷ []) (omega arith)))
    ]

-- ---- a step keeps it

wants_step : (d c : ℕ) (p : List ℕ) → Wants d p → Means (step (wants d) c) (p ++ c ∷ [])
unfolding step text
wants_step d c p w =
    elim (decide (eqb c 126)) [
      | inl h ↦ subst (λ (x : ℕ). Means (step (wants d) x) (p ++ x ∷ [])) (sym (eqb→eq c 126 h)) (λ u. subst (Has d) (sym (onward p (text u) 126)) (w (negated u)))
      | inr h ↦ rw (T→false (eqb c 126) h) (elim (decide (eqb c 40)) [
        | inl k ↦ subst (λ (x : ℕ). Means (cond (eqb x 40) (wants (suc d)) (cond (is_atom x) (has d) dead)) (p ++ x ∷ [])) (sym (eqb→eq c 40 k)) (open_wants d p w)
        | inr k ↦ rw (T→false (eqb c 40) k) (elim (decide (is_atom c)) [
          | inl a ↦ rw (T→true (is_atom c) a) (let x = atom_unit c a in subst (λ (t : List ℕ). Has d (p ++ t)) x.1 (w x.0))
          | inr a ↦ rw (T→false (is_atom c) a) tt
        ])
      ])
    ]

has-step : (d c : ℕ) (p : List ℕ) → Has d p → Means (step (has d) c) (p ++ c ∷ [])
unfolding step
has-step d c p h =
    elim (decide (eqb c 38)) [
      | inl e ↦ subst (λ (x : ℕ). Means (step (has d) x) (p ++ x ∷ [])) (sym (eqb→eq c 38 e)) (join_wants 38 and_unit and_unit_text d p h)
      | inr e ↦ rw (T→false (eqb c 38) e) (elim (decide (eqb c 124)) [
        | inl k ↦ subst (λ (x : ℕ). Means (cond (eqb x 124) (wants d) (cond (eqb x 41) (close d) dead)) (p ++ x ∷ [])) (sym (eqb→eq c 124 k)) (join_wants 124 or_unit or_unit_text d p h)
        | inr k ↦ rw (T→false (eqb c 124) k) (elim (decide (eqb c 41)) [
          | inl a ↦ subst (λ (x : ℕ). Means (cond (eqb x 41) (close d) dead) (p ++ x ∷ [])) (sym (eqb→eq c 41 a)) (closed d h)
          | inr a ↦ rw (T→false (eqb c 41) a) tt
        ])
      ])
    ]
  where
    closed : (d : ℕ) → Has d p → Means (close d) (p ++ 41 ∷ [])
    closed zero h = tt
    closed (suc d) h = close-has d p h

step_means : (st : State) (c : ℕ) (p : List ℕ) → Means st p → Means (step st c) (p ++ c ∷ [])
unfolding step
step_means (wants d) c p m = wants_step d c p m
step_means (has d) c p m = has-step d c p m
step_means dead c p m = tt

run_means : (s : List ℕ) (st : State) (p : List ℕ) → Means st p → Means (run st s) (p ++ s)
run_means [] st p m = subst (Means st) (sym (append-nil p)) m
run_means (c ∷ s) st p m = subst (Means (run (step st c) s)) (onward p s c) (run_means s (step st c) (p ++ c ∷ []) (step_means st c p m))

-- ---- and a live state is finished

pub begins_less : (p q : List ℕ) → Begins (p ++ q) → Begins p
begins_less p q b = record { sentence = b.sentence; rest = q ++ b.rest; written = b.written ∙ append_assoc p q b.rest }

finish : (d : ℕ) (p : List ℕ) → Has d p → Begins p
finish zero p (e, h) = record { sentence = e; rest = []; written = h ∙ sym (append-nil p) }
finish (suc d) p h = begins_less p (41 ∷ []) (finish d (p ++ 41 ∷ []) (close-has d p h))

finish_state : (st : State) (p : List ℕ) → T (alive st) → Means st p → Begins p
finish_state (wants d) p a w = begins_less p (text nought) (finish d (p ++ text nought) (w nought))
finish_state (has d) p a h = finish d p h
finish_state dead p a m = absurd a

-- before any byte a unit is due
starts : Means (wants 0) []
unfolding text
starts u = (one_product (one_unit u), refl)

-- a whole text is a sentence
pub whole-sentence : (s : List ℕ) → verdict (wants 0) 0 s ≡ whole → IsSentence s
whole-sentence s v = let h = subst (λ (st : State). Means st s) (whole_run s (wants 0) 0 v) (run_means s (wants 0) [] starts) in record { sentence = h.0; written = h.1 }

pub alive_begins : (s : List ℕ) → T (alive (run (wants 0) s)) → Begins s
alive_begins s a = finish_state (run (wants 0) s) s a (run_means s (wants 0) [] starts)

-- no sentence begins with a text that leaves it dead
pub dead-begins : (s : List ℕ) → run (wants 0) s ≡ dead → Begins s → ⊥
dead-begins s e b =
    let z : has 0 ≡ dead = sym (run-text b.sentence 0) ∙ ap (run (wants 0)) b.written ∙ run-append s b.rest (wants 0)
    ∙ ap (λ (st : State). run st b.rest) e ∙ run-dead b.rest in
    let y : ◌≡◌ {A = ℕ} 0 1 = cc in omega arith
