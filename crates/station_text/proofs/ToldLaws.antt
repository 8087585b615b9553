-- What is told of a meaning: a test that holds refuses, one that does not is passed; and a room is as `Tells` says.
use mathlib.Core.Path.{◌≡◌, refl, sym, ap, subst}
use mathlib.Core.Bool.{Bool, true, false}
use mathlib.Core.List.{List}
use Prim.Native.Nat.{ℕ}
use Rattle.refusal.specs.declared.Refusal.{Refusal}
use Rattle.print_room.specs.Wrote.{Wrote}
use Rattle.print_answer.proofs.Fitted.{prints}
use Rattle.station_text.specs.Meaning.{Meaning, refused, gives, refused_if, Tells}
use Rattle.std.specs.Prelude.{Ok, Err}

module _ (b : Bool) (r : Refusal) (later : Meaning) where
  pub refused_by : b ≡ true → refused_if b r later ≡ refused r
  unfolding refused_if
  refused_by e = ap (λ (x : Bool). refused_if x r later) e

  pub passed_by : b ≡ false → refused_if b r later ≡ later
  unfolding refused_if
  passed_by e = ap (λ (x : Bool). refused_if x r later) e

module _ (m : Meaning) (old : List ℕ) where
  pub tells-refused : (r : Refusal) → m ≡ refused r → Tells m (Err r) old old
  tells-refused r e = subst (λ (x : Meaning). Tells x (Err r) old old) (sym e) (refl, refl)

  pub tells-given : (t new : List ℕ) (count : ℕ) → m ≡ gives t → Wrote old 0 t new count → Tells m (Ok count) old new
  tells-given t new count e w = subst (λ (x : Meaning). Tells x (Ok count) old new) (sym e) (prints w)

-- what was written, said otherwise
pub wrote_as : {old a b new : List ℕ} {to next : ℕ} → a ≡ b → Wrote old to a new next → Wrote old to b new next
wrote_as {old} {new = new} {to = to} {next = next} e w = subst (λ (t : List ℕ). Wrote old to t new next) e w
