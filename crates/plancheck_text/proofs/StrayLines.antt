-- The first stray line, told by the grammar: the lines before it are fine, and it is not. By induction on the lines.
use mathlib.Core.Path.{◌≡◌, refl, sym, ap, ◌∙◌}
use mathlib.Core.Logic.{inl, inr}
use mathlib.Core.Bool.{Bool, true, false, cond}
use mathlib.Core.List.{List, [], ◌∷◌}
use Rattle.std.specs.Prelude.{Option, Some, None}
use Prim.Native.Nat.{ℕ, zero, suc, ◌+◌, ◌<◌}
use native.Mathlib.Omega.{arith}
use lib.ListN.{length, drop}
use Rattle.refusal.specs.declared.Refusal.{Refusal}
use Rattle.refusal.specs.declared.Refusal.TheVariants.{Malformed}
use Rattle.plancheck_text.specs.Lines.{is_reach_line, is_plan_line, line_byte}
use Rattle.plancheck_text.specs.Meaning.{refused, stray_line, line_bytes, unless_stray, lines_meaning}
use Rattle.plancheck_text.specs.Grammar.{FineAfter, Fine, RefusedAt}
use Rattle.plancheck_text.proofs.ReadLines.{line-only, reach_only}
use Rattle.plancheck_text.proofs.WrittenLines.{line_taken, is_reach}

true_false : {A : Type 0} → true ≡ false → A
true_false e = absurd (let y : ◌≡◌ {A = ℕ} 0 1 = cc in omega arith)

-- ---- the lines after the first

-- M is the line of the first of these pieces that is not fine, where the first of all is line L
record First (L : ℕ) (pieces : List (List ℕ)) (M : ℕ) : Type 0 where
  index : ℕ
  number : M ≡ L + index
  there : index < length pieces
  before : (i : ℕ) → i < index → FineAfter pieces i
  here : FineAfter pieces index → ⊥

-- one piece more in front
later : (l : List ℕ) (pieces : List (List ℕ)) (i : ℕ) → FineAfter pieces i → FineAfter (l ∷ pieces) (suc i)
later l pieces i (inl (h, x)) = inl (omega (arith, h), x)
later l pieces i (inr (h, x)) = inr (ap suc h, x)

earlier : (l : List ℕ) (pieces : List (List ℕ)) (i : ℕ) → FineAfter (l ∷ pieces) (suc i) → FineAfter pieces i
earlier l pieces i (inl (h, x)) = inl (omega (arith, h), x)
earlier l pieces i (inr (h, x)) = inr (omega (arith, h), x)

module _ (L : ℕ) (l : List ℕ) (pieces : List (List ℕ)) where
  -- it is that piece
  at_once : (FineAfter (l ∷ pieces) 0 → ⊥) → First L (l ∷ pieces) L
  at_once stray = record { index = 0; number = omega arith; there = omega arith; before = λ i h. absurd (omega (arith, h)); here = stray }

  -- or one after it
  past : {M : ℕ} → FineAfter (l ∷ pieces) 0 → First (suc L) pieces M → First L (l ∷ pieces) M
  past fine f = record {
    index = suc f.index;
    number = omega (arith, f.number);
    there = omega (arith, f.there);
    before = λ i h. up_to i h;
    here = λ x. f.here (earlier l pieces f.index x);
  }
    where
      up_to : (i : ℕ) → i < suc f.index → FineAfter (l ∷ pieces) i
      up_to zero h = fine
      up_to (suc i) h = later l pieces i (f.before i (omega (arith, h)))

stray_is : (L : ℕ) (pieces : List (List ℕ)) (M : ℕ) → 0 < length pieces → stray_line L pieces ≡ Some M → First L pieces M
unfolding stray_line
stray_is L [] M some e = absurd (omega arith)
stray_is L ([] ∷ []) M some e = absurd cc
stray_is L ((c ∷ rest) ∷ []) M some e = let z : M ≡ L = cc in rw z (at_once L (c ∷ rest) [] (λ x. unended x))
  where
    unended : FineAfter ((c ∷ rest) ∷ []) 0 → ⊥
    unended (inl (h, x)) = omega (arith, h)
    unended (inr (h, x)) = let z = ap length x in omega (arith, z)
stray_is L (l ∷ another ∷ more) M some e =
    by_test (is_plan_line l) refl (stray_is (suc L) (another ∷ more) M (omega arith)) e
  where
    by_test : (b : Bool) → is_plan_line l ≡ b → (stray_line (suc L) (another ∷ more) ≡ Some M → First (suc L) (another ∷ more) M)
        → cond b (stray_line (suc L) (another ∷ more)) (Some L) ≡ Some M → First L (l ∷ another ∷ more) M
    by_test true t f e = past L l (another ∷ more) (inl (omega arith, (line_byte l, line-only l t))) (f e)
    by_test false t f e = let z : M ≡ L = cc in rw z (at_once L l (another ∷ more) (λ x. not_fine x))
      where
        not_fine : FineAfter (l ∷ another ∷ more) 0 → ⊥
        not_fine (inl (h, (c, x))) = true_false (sym (line_taken l c x).is-line ∙ t)
        not_fine (inr (h, x)) = omega (arith, h)

-- ---- the whole text

no_reach : (l : List ℕ) (pieces : List (List ℕ)) → (Fine (l ∷ pieces) 0 → ⊥) → RefusedAt (l ∷ pieces) (Malformed 1)
no_reach l pieces stray = (0, refl, record { there = omega arith; before = λ i h. absurd (omega (arith, h)); here = stray })

pub refusal_is : {x r : Refusal} → refused x ≡ refused r → r ≡ x
refusal_is e = cc

after_reach : (l : List ℕ) (pieces : List (List ℕ)) (M : Option ℕ) (t : List ℕ) (r : Refusal) → Fine (l ∷ pieces) 0 → ((m : ℕ) → M ≡ Some m → First 2 pieces m)
    → unless_stray M t ≡ refused r → RefusedAt (l ∷ pieces) r
after_reach l pieces None t r fine f e = absurd cc
after_reach l pieces (Some M) t r fine f e =
    let g = f M refl in (
      suc g.index,
      refusal_is e ∙ ap Malformed (omega (arith, g.number)),
      record {
        there = omega (arith, g.there);
        before = λ i h. up_to g i h;
        here = λ x. g.here (earlier l pieces g.index x);
      },
    )
  where
    up_to : (g : First 2 pieces M) (i : ℕ) → i < suc g.index → Fine (l ∷ pieces) i
    up_to g zero h = fine
    up_to g (suc i) h = later l pieces i (g.before i (omega (arith, h)))

pub lines_stray : (pieces : List (List ℕ)) (r : Refusal) → 0 < length pieces → lines_meaning pieces ≡ refused r → RefusedAt pieces r
unfolding lines_meaning
lines_stray [] r some e = absurd (omega arith)
lines_stray (rest ∷ []) r some e = rw (refusal_is e) (no_reach rest [] (λ x. omega (arith, x.0)))
lines_stray (l ∷ another ∷ more) r some e = by_test (is_reach_line l) refl e
  where
    by_test : (b : Bool) → is_reach_line l ≡ b
        → cond b (unless_stray (stray_line 2 (another ∷ more)) (line_bytes (another ∷ more))) (refused (Malformed 1)) ≡ refused r
        → RefusedAt (l ∷ another ∷ more) r
    by_test true t e =
        let x = reach_only l t in
        after_reach l (another ∷ more) (stray_line 2 (another ∷ more)) (line_bytes (another ∷ more)) r (omega arith, (drop 6 l, x.0, x.1))
        (λ m x. stray_is 2 (another ∷ more) m (omega arith) x) e
    by_test false t e =
        rw (refusal_is e)
        (no_reach l (another ∷ more) (λ x. true_false (sym (is_reach x.1.0 x.1.1) ∙ ap is_reach_line (sym x.1.2) ∙ t)))
