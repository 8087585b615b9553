-- Text written piece by piece is written whole.
use mathlib.Core.Path.{◌≡◌, refl, sym, ap, ap₂, ◌∙◌, subst}
use mathlib.Core.List.{List, [], ◌∷◌, ◌++◌}
use Prim.Native.Nat.{ℕ, ◌+◌, ◌<◌}
use native.Mathlib.Numerals.{add-one}
use native.Mathlib.Omega.{arith}
use lib.ListN.{length, get_or, take, length-append}
use lib.Seq.{sets, length-sets, take-suc}
use Rattle.ground.proofs.Lists.{sets-append}
use Rattle.print_room.specs.Wrote.{Ends, Wrote}

-- one text and then another
pub wrote_then : {a b c s t : List ℕ} {i j k : ℕ} → Wrote a i s b j → Wrote b j t c k → Wrote a i (s ++ t) c k
wrote_then {a} {s = s} {t = t} {i = i} w v = record {
  room = v.room ∙ ap₂ (λ (l : List ℕ) (n : ℕ). sets l n t) w.room w.next_place ∙ sym (sets-append a i s t);
  next_place = omega (arith, w.next_place, v.next_place, length-append s t);
}

-- the two parts of a text end where it does
pub ends-left : (s t : List ℕ) {to : ℕ} → Ends to (s ++ t) → Ends to s
ends-left s t e = record { below = omega (arith, e.below, length-append s t) }

pub ends-right : {a b s t : List ℕ} {to at : ℕ} → Wrote a to s b at → Ends to (s ++ t) → Ends at t
ends-right {s = s} {t = t} w e = record { below = omega (arith, e.below, w.next_place, length-append s t) }

-- a room keeps its length
pub wrote-length : {a b s : List ℕ} {i j : ℕ} → Wrote a i s b j → length b ≡ length a
wrote-length {a} {s = s} {i = i} w = ap length w.room ∙ length-sets a i s

-- one turn of the loop over a text
module _ {old new : List ℕ} {to at : ℕ} (text : List ℕ) (i : ℕ) (so_far : Wrote old to (take i text) new at) where
  pub wrote-more : {last : List ℕ} {next : ℕ} → i < length text → Wrote new at (get_or text i 0 ∷ []) last next → Wrote old to (take (i + 1) text) last next
  wrote-more {last} {next} h w = rw (add-one, take-suc text i 0 h) (wrote_then so_far w)

-- nothing written, and a text under another name
pub wrote_none : {old : List ℕ} {to : ℕ} → Wrote old to [] old to
wrote_none = record { room = refl; next_place = omega arith }

pub wrote_as : {a b s t : List ℕ} {i j : ℕ} → s ≡ t → Wrote a i s b j → Wrote a i t b j
wrote_as {a} {b} {i = i} {j = j} e w = subst (λ (x : List ℕ). Wrote a i x b j) e w

pub ends_as : {s t : List ℕ} {to : ℕ} → s ≡ t → Ends to s → Ends to t
ends_as {to = to} e w = subst (Ends to) e w
