-- How far the places of a question's refusals go: for those who pack the answer into one number.
use mathlib.Core.List.{List}
use Prim.Native.Nat.{ℕ, ◌<◌}
use native.Mathlib.Omega.{arith}
use Rattle.refusal.specs.declared.Refusal.{Refusal}
use Rattle.refusal.specs.Refusals.{place}
use Rattle.refusal.specs.Order.{First}
use Rattle.refusal.proofs.OrderLaws.{PlacesBelow, first-place-below, places_append}
use Rattle.book_sound.specs.Rows.{book_rows}
use Rattle.book_sound.proofs.Theorems.{book_places}
use Rattle.knowledge.specs.Goal.{Goal}
use Rattle.question.specs.Rows.{question_rows}
use Rattle.question.specs.declared.Question.{Question}
use Rattle.question.specs.Legs.{second_rows, leg_rows}
use Rattle.question.proofs.RowLaws.{own_rows}

pub question_places : (book : List ℕ) (q : Question) (goal : Goal) → PlacesBelow 9 (question_rows book q goal)
unfolding question_rows
question_places book q goal =
    places_append 9 (book_rows book) (own_rows book q goal) (book_places book)
    (λ _. ((λ i g. omega arith), λ _. ((λ i g. omega arith), λ _. ((λ i g. omega arith), λ _. ((λ i g. omega arith), λ _. tt)))))

pub question_place-small : (book : List ℕ) (q : Question) (goal : Goal) (r : Refusal) → First (question_rows book q goal) r → place r < 9
question_place-small book q goal r f = first-place-below 9 (question_rows book q goal) (question_places book q goal) f

pub leg_places : (book : List ℕ) (q : Question) (goal : Goal) (team2 : ℕ) (goal2 : Goal) → PlacesBelow 9 (leg_rows book q goal team2 goal2)
unfolding leg_rows
leg_places book q goal team2 goal2 =
    places_append 9 (question_rows book q goal) (second_rows book team2 goal2) (question_places book q goal)
    (λ _. ((λ i g. omega arith), λ _. ((λ i g. omega arith), λ _. tt)))
