-- The automaton from state to state: a sentence takes it from `wants` to `has`, whatever follows, and a verdict tells where it died.
use mathlib.Core.Path.{◌≡◌, refl, sym, ap, ◌∙◌, subst}
use mathlib.Core.Logic.{◌⊎◌, inl, inr}
use mathlib.Core.List.{List, [], ◌∷◌, ◌++◌}
use mathlib.Core.Bool.{Bool, true, false}
use Prim.Native.Nat.{ℕ, zero, suc, ◌+◌, ◌<◌}
use native.Mathlib.Omega.{arith}
use lib.Dec.{T}
use lib.ListN.{length, take}
use Rattle.formula_grammar.specs.Grammar.{Kind, Sentence, letter, nought, one, negated, bracketed, one_unit, unit_and, one_product, product_or, text}
use Rattle.formula_grammar.specs.Signs.{is_letter}
use Rattle.formula_grammar.specs.Automaton.{State, wants, has, dead, is_atom, step, Verdict, whole, breaks, verdict}

-- the state after the text
abbrev pub run : State → List ℕ → State
run st [] = st
run st (c ∷ s) = run (step st c) s

pub run-append : (s t : List ℕ) (st : State) → run st (s ++ t) ≡ run (run st s) t
run-append [] t st = refl
run-append (c ∷ s) t st = run-append s t (step st c)

pub run-dead : (s : List ℕ) → run dead s ≡ dead
unfolding step
run-dead [] = refl
run-dead (c ∷ s) = run-dead s

-- the seven letters, by one test at each
letter-step : (i : ℕ) → i < 7 → (d : ℕ) → step (wants d) (97 + i) ≡ has d
unfolding step is_atom is_letter
letter-step zero h d = refl
letter-step (suc zero) h d = refl
letter-step (suc (suc zero)) h d = refl
letter-step (suc (suc (suc zero))) h d = refl
letter-step (suc (suc (suc (suc zero)))) h d = refl
letter-step (suc (suc (suc (suc (suc zero))))) h d = refl
letter-step (suc (suc (suc (suc (suc (suc zero)))))) h d = refl
letter-step (suc (suc (suc (suc (suc (suc (suc i))))))) h d = absurd (omega arith)

pub run-text : {k : Kind} (e : Sentence k) (d : ℕ) → run (wants d) (text e) ≡ has d
unfolding text step is_atom is_letter
run-text (letter i h) d = letter-step i h d
run-text nought d = refl
run-text one d = refl
run-text (negated u) d = run-text u d
run-text (bracketed s) d = run-append (text s) (41 ∷ []) (wants (suc d)) ∙ ap (λ (st : State). run st (41 ∷ [])) (run-text s (suc d))
run-text (one_unit u) d = run-text u d
run-text (unit_and u p) d = run-append (text u) (38 ∷ text p) (wants d) ∙ ap (λ (st : State). run st (38 ∷ text p)) (run-text u d) ∙ run-text p d
run-text (one_product p) d = run-text p d
run-text (product_or p s) d = run-append (text p) (124 ∷ text s) (wants d) ∙ ap (λ (st : State). run st (124 ∷ text s)) (run-text p d) ∙ run-text s d

never : {p : ℕ} → whole ≡ breaks p → ⊥
never e = let z : ◌≡◌ {A = ℕ} 0 1 = cc in omega arith

ends_at : {i p : ℕ} → breaks i ≡ breaks p → p ≡ i + 0
ends_at {i} {p} e = let z : i ≡ p = cc in omega arith

abbrev pub alive : State → Bool
alive (wants d) = true
alive (has d) = true
alive dead = false

-- the judgement after a byte that led to st at place i
abbrev after : State → ℕ → List ℕ → Verdict
after (wants d) i s = verdict (wants d) (suc i) s
after (has d) i s = verdict (has d) (suc i) s
after dead i s = breaks i

verdict_cons : (st : State) (i c : ℕ) (s : List ℕ) → verdict st i (c ∷ s) ≡ after (step st c) i s
unfolding verdict
verdict_cons st i c s = go (step st c)
  where
    go : (x : State) → elim x [ wants d ↦ verdict (wants d) (suc i) s | has d ↦ verdict (has d) (suc i) s | dead ↦ breaks i ] ≡ after x i s
    go (wants d) = refl
    go (has d) = refl
    go dead = refl

pub verdict_dies : (st : State) (i c : ℕ) (s : List ℕ) → step st c ≡ dead → verdict st i (c ∷ s) ≡ breaks i
verdict_dies st i c s e = verdict_cons st i c s ∙ ap (λ (x : State). after x i s) e

-- what a text that is survived leaves to be judged
after-append : (s t : List ℕ) (i : ℕ) → ((st : State) (j : ℕ) → T (alive (run st s)) → verdict st j (s ++ t) ≡ verdict (run st s) (j + length s) t)
    → (st : State) → T (alive (run st s)) → after st i (s ++ t) ≡ verdict (run st s) (i + suc (length s)) t
after-append s t i f (wants d) a = f (wants d) (suc i) a ∙ ap (λ (j : ℕ). verdict (run (wants d) s) j t) (omega arith)
after-append s t i f (has d) a = f (has d) (suc i) a ∙ ap (λ (j : ℕ). verdict (run (has d) s) j t) (omega arith)
after-append s t i f dead a = absurd (subst (λ (x : State). T (alive x)) (run-dead s) a)

pub verdict-append : (s t : List ℕ) (st : State) (i : ℕ) → T (alive (run st s)) → verdict st i (s ++ t) ≡ verdict (run st s) (i + length s) t
verdict-append [] t st i a = ap (λ (j : ℕ). verdict st j t) (omega arith)
verdict-append (c ∷ s) t st i a = verdict_cons st i c (s ++ t) ∙ after-append s t i (λ x j. verdict-append s t x j) (step st c) a

-- a sentence leads to the same judgement as the unit that it stands for
pub verdict-text : {k : Kind} (e : Sentence k) (d i : ℕ) (t : List ℕ) → verdict (wants d) i (text e ++ t) ≡ verdict (has d) (i + length (text e)) t
verdict-text e d i t =
    verdict-append (text e) t (wants d) i (subst (λ (x : State). T (alive x)) (sym (run-text e d)) tt)
    ∙ ap (λ (x : State). verdict x (i + length (text e)) t) (run-text e d)

-- where a text breaks: at its j-th byte, which kills what was alive; or at its end, alive
abbrev pub Stopped : State → ℕ → List ℕ → ℕ → Type 0
Stopped st i s p =
    ((j : ℕ) × (p ≡ i + j) × (j < length s) × T (alive (run st (take j s))) × (run st (take (suc j) s) ≡ dead))
    ⊎ ((p ≡ i + length s) × T (alive (run st s)))

later : (st x : State) (i c p : ℕ) (s : List ℕ) → step st c ≡ x → Stopped x (suc i) s p → Stopped st i (c ∷ s) p
later st x i c p s e (inl (j, q, l, a, k)) =
    inl (suc j, omega arith, omega arith, subst (λ (y : State). T (alive (run y (take j s)))) (sym e) a, subst (λ (y : State). run y (take (suc j) s) ≡ dead) (sym e) k)
later st x i c p s e (inr (q, a)) = inr (omega arith, subst (λ (y : State). T (alive (run y s))) (sym e) a)

after-stopped : (st x : State) (i c p : ℕ) (s : List ℕ) → T (alive st) → step st c ≡ x → ((y : State) → T (alive y) → verdict y (suc i) s ≡ breaks p → Stopped y (suc i) s p)
    → after x i s ≡ breaks p → Stopped st i (c ∷ s) p
after-stopped st (wants d) i c p s a e f v = later st (wants d) i c p s e (f (wants d) tt v)
after-stopped st (has d) i c p s a e f v = later st (has d) i c p s e (f (has d) tt v)
after-stopped st dead i c p s a e f v = inl (0, ends_at v, omega arith, a, e)

pub stopped : (s : List ℕ) (st : State) (i p : ℕ) → T (alive st) → verdict st i s ≡ breaks p → Stopped st i s p
unfolding verdict
stopped [] (wants d) i p a v = inr (ends_at v, tt)
stopped [] (has zero) i p a v = absurd (never v)
stopped [] (has (suc d)) i p a v = inr (ends_at v, tt)
stopped [] dead i p a v = absurd a
stopped (c ∷ s) st i p a v = after-stopped st (step st c) i c p s a refl (λ y b w. stopped s y (suc i) p b w) (sym (verdict_cons st i c s) ∙ v)

-- a text that is whole ends where a sentence may
after-whole : (x : State) (i : ℕ) (s : List ℕ) → ((y : State) (j : ℕ) → verdict y j s ≡ whole → run y s ≡ has 0) → after x i s ≡ whole → run x s ≡ has 0
after-whole (wants d) i s f v = f (wants d) (suc i) v
after-whole (has d) i s f v = f (has d) (suc i) v
after-whole dead i s f v = absurd (never (sym v))

pub whole_run : (s : List ℕ) (st : State) (i : ℕ) → verdict st i s ≡ whole → run st s ≡ has 0
unfolding verdict
whole_run [] (wants d) i v = absurd (never (sym v))
whole_run [] (has zero) i v = refl
whole_run [] (has (suc d)) i v = absurd (never (sym v))
whole_run [] dead i v = absurd (never (sym v))
whole_run (c ∷ s) st i v = after-whole (step st c) i s (λ y j w. whole_run s y j w) (sym (verdict_cons st i c s) ∙ v)
