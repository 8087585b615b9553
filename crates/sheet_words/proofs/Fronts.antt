-- The beginning of a line, by its bytes.
use mathlib.Core.Path.{◌≡◌, refl, sym, ap, ap₂, ◌∙◌}
use mathlib.Core.Logic.{inl, inr}
use mathlib.Core.Bool.{Bool, true, false, ◌&&◌}
use mathlib.Core.List.{List, [], ◌∷◌}
use Prim.Native.Nat.{ℕ, ◌+◌, ◌-◌, ◌≤◌}
use native.Mathlib.Omega.{arith}
use lib.Dec.{eqb, ltb}
use lib.ListN.{length, get_or, take}
use Rattle.std.specs.Cmp.Lexicographic.{pointwise}
use Rattle.std.proofs.lemmas.Bool.{lt-ltb, le-ltb}
use borrow.Author.Tests.{le-leb}
use Rattle.ground.specs.Text.{byte}
use Rattle.ground.proofs.Bools.{lt_or_ge}
use Rattle.sheet_words.specs.Words.{begins, passed_over, among}

-- what `starts_with` says
pub begins_by_bytes : (w s : List ℕ) → pointwise eqb w (take (length w) s) ≡ begins w s
unfolding begins
begins_by_bytes [] s = refl
begins_by_bytes (c ∷ w) [] = refl
begins_by_bytes (c ∷ w) (d ∷ s) = ap (λ (b : Bool). eqb c d && b) (begins_by_bytes w s)

and_right_true : (a b : Bool) → (a && b) ≡ true → b ≡ true
and_right_true true b e = e
and_right_true false b e = absurd cc

pub begins-length : (w s : List ℕ) → begins w s ≡ true → length w ≤ length s
unfolding begins
begins-length [] s e = omega arith
begins-length (c ∷ w) [] e = absurd cc
begins-length (c ∷ w) (d ∷ s) e = let h = begins-length w s (and_right_true (eqb c d) (begins w s) e) in omega arith

-- a line that is passed over, by its length and its first byte
pub passed_empty : (s : List ℕ) → length s ≡ 0 → true ≡ passed_over s
unfolding passed_over
passed_empty [] h = refl
passed_empty (c ∷ s) h = absurd (omega (arith, h))

pub passed_first : (s : List ℕ) → (length s ≡ 0 → ⊥) → eqb (get_or s 0 0) (byte "#") ≡ passed_over s
unfolding passed_over
passed_first [] h = absurd (h refl)
passed_first (c ∷ s) h = refl

-- a sign by how far it stands from the first
pub among_shifted : (first count c : ℕ) → first ≤ c → ltb (c - first) count ≡ among first count c
unfolding among
among_shifted first count c h =
    elim (lt_or_ge (c - first) count) [
      | inl l ↦ lt-ltb (c - first) count l ∙ sym (ap₂ ◌&&◌ (le-leb first c h) (lt-ltb c (first + count) (omega arith)))
      | inr l ↦ le-ltb (c - first) count l ∙ sym (ap₂ ◌&&◌ (le-leb first c h) (le-ltb c (first + count) (omega arith)))
    ]
