-- Marked, then spread: the certificate, since a mark is 0 exactly where the goal is settled.
use mathlib.Core.Path.{refl, ◌∙◌}
use mathlib.Core.Logic.{inl, inr}
use mathlib.Core.List.{List}
use mathlib.Core.Bool.{Bool}
use Prim.Native.Nat.{ℕ}
use native.Mathlib.Omega.{arith}
use Rattle.finder_ranks.specs.Marks.{Marks}
use Rattle.finder_ranks.specs.Spread.{Ready, Spread}
use Rattle.finder_ranks.specs.Fills.{RanksFit, RankTable, FillsRanks, FillsFirst, goal_then}
use Rattle.finder_sides.specs.Tables.{goal_at}
use Rattle.finder_ranks.proofs.MarkLaws.{marked-goal, goal-marked, marked_either}

module _ {n : ℕ} {goal : ℕ → Bool} {old marks : List ℕ} (m : Marks n goal old marks) where
  pub ready : RanksFit n old → Ready n marks
  ready fits = record { few = fits.few; room = omega (arith, m.long, fits.room); marks = λ k h. marked_either m k h }

  pub table : {set look : List (List ℕ)} {new : List ℕ} → Spread n set look marks new → RankTable n goal set look old new
  table s = record {
    same_length = s.same_length ∙ m.long;
    beyond = λ k h. s.beyond k h ∙ m.kept k h;
    most = s.most;
    settled = λ k h g. s.settled k h (marked-goal m k h g);
    reached = λ k h l. elim (s.reached k h l) [ inl e ↦ inl (goal-marked m k h e) | inr w ↦ inr w ];
    least = s.least;
  }

module _ {n : ℕ} {made learnt : List ℕ} {set look : List (List ℕ)} {old : List ℕ} where
  pub filled : {new : List ℕ} → RanksFit n old → RankTable n (goal_at n made learnt) set look old new → FillsRanks n made learnt set look old new
  filled fits t = record { filled = λ r. t; kept = λ none. absurd (none fits) }

  -- where there is no table to fill
  pub unfilled : (RanksFit n old → ⊥) → FillsRanks n made learnt set look old old
  unfilled none = record { filled = λ r. absurd (none r); kept = λ n. refl }

  module _ {ranks2 : List ℕ} where
    pub filled-first : {new : List ℕ} → RanksFit n ranks2 → RanksFit n old → RankTable n (goal_then n made learnt ranks2) set look old new
        → FillsFirst n made learnt ranks2 set look old new
    filled-first there fits t = record { filled = λ r s. t; kept = λ none. absurd (none there fits) }
