-- Entries of 1 and 0.
use mathlib.Core.Path.{◌≡◌, refl, ap, ◌∙◌}
use mathlib.Core.List.{List}
use mathlib.Core.Bool.{Bool, true, false, not}
use Prim.Native.Nat.{ℕ, ◌^◌, ◌<◌}
use lib.Dec.{eqb, lit<}
use lib.ListN.{get_or}
use Rattle.finder_sides.specs.Tables.{one_of, SideTable}

pub one_lt : (b : Bool) → one_of b < 2
one_lt true = lit< tt
one_lt false = lit< tt

-- an entry of 1 or 0 tells, by not being 0
pub one-some : (b : Bool) → not (eqb (one_of b) 0) ≡ b
one-some true = refl
one-some false = refl

pub side_some : {n : ℕ} {f : ℕ → Bool} {t : List ℕ} → SideTable n f t → (s : ℕ) → s < 3 ^ n → not (eqb (get_or t s 0) 0) ≡ f s
side_some {n} {f} {t} table s h = ap (λ (e : ℕ). not (eqb e 0)) (table.each s h) ∙ one-some (f s)
