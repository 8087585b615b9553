-- What is named twice, told by the names alone, is what the tests of a line find: by induction on the names, and on the rights that are stated.
use mathlib.Core.Path.{◌≡◌, refl, sym, subst}
use mathlib.Core.Logic.{◌⊎◌, inl, inr, ⊎_elim}
use mathlib.Core.List.{List, ◌∷◌, map}
use mathlib.Core.Bool.{Bool, false, ◌&&◌, ◌||◌}
use Prim.Native.Nat.{ℕ}
use native.Mathlib.Omega.{arith}
use lib.Dec.{T, eqb, eqb→eq}
use Rattle.ground.proofs.Bools.{eq→eqb, and_in, or_left, or_right, or_out}
use Rattle.book_block.specs.declared.rule.Right.{Right}
use Rattle.book_block.specs.declared.rule.Right.TheVariants.{Look, Set}
use Rattle.sheet_words.specs.Words.{twice}
use Rattle.sheet_words.proofs.NameForms.{three}
use Rattle.sheet_rules.specs.Rules.{Rule, same_right, concerns, is_stated}
use Rattle.sheet_reading.specs.Faults.{right_line, LineStates, StatedIn, OneOf, Repeats}

-- ---- posts and settings

-- after some that are `named` already, one of those is named again, or one of the names comes again
twice_out : (named : ℕ → Bool) (names : List ℕ) → T (twice named names) → ((i : ℕ) × T (named i) × OneOf i names) ⊎ Repeats names
unfolding twice
twice_out named (x ∷ xs) h = elim (or_out (named x) (twice (λ i. named i || eqb x i) xs) h) [
  | inl t ↦ inl (x, t, inl refl)
  | inr later ↦ elim (twice_out (λ i. named i || eqb x i) xs later) [
    | inl (i, t, m) ↦ elim (or_out (named i) (eqb x i) t) [
      | inl old ↦ inl (i, old, inr m)
      | inr new ↦ inr (inl (subst (λ (j : ℕ). OneOf j xs) (sym (eqb→eq x i new)) m))
    ]
    | inr r ↦ inr (inr r)
  ]
]
twice_out named mathlib.Core.List.[] h = elim h [ ]

twice-named : (named : ℕ → Bool) (names : List ℕ) (i : ℕ) → T (named i) → OneOf i names → T (twice named names)
unfolding twice
twice-named named (x ∷ xs) i t (inl e) = or_left (named x) (twice (λ j. named j || eqb x j) xs) (subst (λ (j : ℕ). T (named j)) (sym e) t)
twice-named named (x ∷ xs) i t (inr m) =
    or_right (named x) (twice (λ j. named j || eqb x j) xs) (twice-named (λ j. named j || eqb x j) xs i (or_left (named i) (eqb x i) t) m)
twice-named named mathlib.Core.List.[] i t x'' = elim x'' [ ]

twice_repeats : (named : ℕ → Bool) (names : List ℕ) → Repeats names → T (twice named names)
unfolding twice
twice_repeats named (x ∷ xs) (inl m) =
    or_right (named x) (twice (λ j. named j || eqb x j) xs) (twice-named (λ j. named j || eqb x j) xs x (or_right (named x) (eqb x x) (eq→eqb {a = x} refl)) m)
twice_repeats named (x ∷ xs) (inr r) = or_right (named x) (twice (λ j. named j || eqb x j) xs) (twice_repeats (λ j. named j || eqb x j) xs r)
twice_repeats named mathlib.Core.List.[] x' = elim x' [ ]

pub repeats_out : (names : List ℕ) → T (twice (λ i. false) names) → Repeats names
repeats_out names h = elim (twice_out (λ i. false) names h) [ inl (i, t, m) ↦ absurd t | inr r ↦ r ]

pub repeats_in : (names : List ℕ) → Repeats names → T (twice (λ i. false) names)
repeats_in names r = twice_repeats (λ i. false) names r

-- ---- rights

same_out : (a b : Right) → T (same_right a b) → a ≡ b
unfolding same_right
same_out Look Look h = refl
same_out Set Set h = refl
same_out Look Set h = elim h [ ]
same_out Set Look h = elim h [ ]

same_in : (a b : Right) → a ≡ b → T (same_right a b)
unfolding same_right
same_in Look Look e = tt
same_in Look Set e = let z : ◌≡◌ {A = ℕ} 0 1 = cc in omega arith
same_in Set Look e = let z : ◌≡◌ {A = ℕ} 0 1 = cc in omega arith
same_in Set Set e = tt

module _ (r : Rule) where
  concerns_in : (q : Rule) → LineStates r (right_line q) → T (concerns q r.right r.setting r.post)
  unfolding concerns
  concerns_in q (x, y, z) =
      let a : Bool = same_right q.right r.right in
      let b : Bool = eqb q.setting r.setting in
      and_in (a && b) (eqb q.post r.post) (and_in a b (same_in q.right r.right x) (eq→eqb y)) (eq→eqb z)

  pub stated_in : (rules : List Rule) → StatedIn r (map right_line rules) → T (is_stated rules r.right r.setting r.post)
  unfolding is_stated
  stated_in (q ∷ rules) (inl h) =
      or_left (concerns q r.right r.setting r.post) (is_stated rules r.right r.setting r.post) (concerns_in q h)
  stated_in (q ∷ rules) (inr h) =
      or_right (concerns q r.right r.setting r.post) (is_stated rules r.right r.setting r.post) (stated_in rules h)
  stated_in mathlib.Core.List.[] x' = elim x' [ ]

  concerns_out : (q : Rule) → T (concerns q r.right r.setting r.post) → LineStates r (right_line q)
  unfolding concerns
  concerns_out q h =
      let t = three (same_right q.right r.right) (eqb q.setting r.setting) (eqb q.post r.post) h in
      (same_out q.right r.right t.0, eqb→eq q.setting r.setting t.1, eqb→eq q.post r.post t.2)

  pub stated_out : (rules : List Rule) → T (is_stated rules r.right r.setting r.post) → StatedIn r (map right_line rules)
  unfolding is_stated
  stated_out (q ∷ rules) h =
      ⊎_elim (λ k. inl (concerns_out q k)) (λ k. inr (stated_out rules k))
      (or_out (concerns q r.right r.setting r.post) (is_stated rules r.right r.setting r.post) h)
  stated_out mathlib.Core.List.[] h = elim h [ ]
