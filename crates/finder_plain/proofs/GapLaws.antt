-- The values that the entries have, marked one entry after the other; and a value that is not marked is a gap.
use mathlib.Core.Path.{◌≡◌, sym, ap, ◌∙◌}
use mathlib.Core.List.{List}
use mathlib.Core.Bool.{Bool, true, false, beq}
use Prim.Native.Nat.{ℕ, ◌^◌, ◌<◌}
use native.Mathlib.Omega.{arith}
use lib.ListN.{get_or, take}
use mir.Val.{bool_byte}
use Rattle.std.specs.List.{IsAnyAnswer}
use Rattle.std.proofs.lemmas.List.{get_or-take, length-take}
use Rattle.finder_plain.specs.Gaps.{SeenBelow, Gap, FindsGap}

module _ {entries : List ℕ} {found : List Bool} {k : ℕ} (s : SeenBelow entries k found) where
  pub gap_here : {n top v : ℕ} → k ≡ 7 ^ n → v < top → (get_or found v false ≡ true → ⊥) → Gap n entries top
  gap_here {n} {top} {v} e l none = record {
    value = v;
    low = l;
    nowhere = λ j m f. none (ap (λ (i : ℕ). get_or found i false) (sym f) ∙ s.marked j (omega arith));
  }

-- a value that is not marked was found
pub gap_found : {entries : List ℕ} {found : List Bool} {k n top : ℕ} {r : Bool} → SeenBelow entries k found → k ≡ 7 ^ n → top < 256
    → IsAnyAnswer (λ y b. beq y false ≡ b) (take top found) r → FindsGap n entries top r
gap_found {found = found} {top = top} {r = true} s e l (v, low, here) f =
    let few : v < top = omega (arith, low, length-take top found) in
    gap_here s e few (λ w.
    let no : false ≡ true = rw (get_or-take top found v false few ∙ w) at (here false) in
    absurd (omega (arith, ap bool_byte no)))
gap_found {r = false} s e l none f = absurd (omega (arith, ap bool_byte f))
