-- Text written from the front of a room is what `fitted` says: by induction on the text.
use mathlib.Core.Path.{◌≡◌, refl, ap, ◌∙◌}
use mathlib.Core.List.{List, [], ◌∷◌}
use Prim.Native.Nat.{ℕ, suc}
use native.Mathlib.Nat.{zero-add}
use lib.ListN.{length, set}
use lib.Seq.{sets, take-nil}
use Rattle.print_room.specs.Wrote.{Wrote}
use Rattle.print_answer.specs.Printed.{fitted, Prints}

sets_nil : (i : ℕ) (vs : List ℕ) → sets [] i vs ≡ []
sets_nil i [] = refl
sets_nil i (v ∷ vs) = sets_nil (suc i) vs

sets_behind : (x : ℕ) (l : List ℕ) (i : ℕ) (vs : List ℕ) → sets (x ∷ l) (suc i) vs ≡ x ∷ sets l i vs
sets_behind x l i [] = refl
sets_behind x l i (v ∷ vs) = sets_behind x (set l i v) (suc i) vs

sets-fitted : (old text : List ℕ) → sets old 0 text ≡ fitted old text
sets-fitted old [] = rw (take-nil (length old))
sets-fitted [] (v ∷ vs) = sets_nil 1 vs
sets-fitted (x ∷ old) (v ∷ vs) = sets_behind v old 0 vs ∙ ap (λ (l : List ℕ). v ∷ l) (sets-fitted old vs)

pub prints : {old text new : List ℕ} {r : ℕ} → Wrote old 0 text new r → Prints old text r new
prints {old} {text} w = record { count = w.next_place ∙ zero-add (length text); room = w.room ∙ sets-fitted old text }
