-- A refusal's place is small: it is inside the text or at its end, and only a text of at most 255 bytes gets that far.
use mathlib.Core.List.{List}
use mathlib.Core.Logic.{inl, inr, ⊎_elim}
use mathlib.Core.Bool.{Bool, true, false, cond}
use Prim.Native.Nat.{ℕ, ◌≤◌, ◌<◌}
use native.Mathlib.Omega.{arith}
use lib.Dec.{lit<}
use lib.ListN.{length, get_or}
use Rattle.ground.proofs.Bools.{lt_or_ge}
use Rattle.refusal.specs.declared.Refusal.{Refusal}
use Rattle.refusal.specs.declared.Refusal.TheVariants.{StrayByte, LetterPast, FormulaLength}
use Rattle.refusal.specs.Refusals.{place}
use Rattle.refusal.specs.Order.{when, Never, First}
use Rattle.refusal.proofs.OrderLaws.{when-never, first-place-below}
use Rattle.formula_grammar.specs.Signs.{is_stray}
use Rattle.formula.specs.Read.{LengthFits, formula_rows}

either_place : (b : Bool) (i : ℕ) → i < 256 → place (cond b (StrayByte i) (LetterPast i)) < 256
either_place true i h = h
either_place false i h = h

long_enough : (s : List ℕ) → Never (when (LengthFits s → ⊥) FormulaLength) → length s ≤ 255
long_enough s n = elim (lt_or_ge 255 (length s)) [ inl h ↦ absurd (when-never n (λ f. omega (arith, f.1, h))) | inr h ↦ h ]

pub place-small : {n : ℕ} {s : List ℕ} {r : Refusal} → First (formula_rows n s) r → place r < 256
place-small {n} {s} f =
    first-place-below 256
    (formula_rows n s) (
      λ i g. lit< tt,
      λ five. (
        λ i g. lit< tt,
        λ one. (
          λ i g. either_place (is_stray (get_or s i 0)) i (omega (arith, g.0, long_enough s one)),
          λ two-or-three.
              (λ i g. ⊎_elim (λ y. omega (arith, y.0, long_enough s one)) (λ y. omega (arith, y, long_enough s one)) g.1, λ four. tt),
        ),
      ),
    )
    f
