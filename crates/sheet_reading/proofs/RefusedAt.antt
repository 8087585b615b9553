-- Where a sheet is refused: the lines before that line begin a well-formed sheet, and the lines up to it are refused so whatever follows them. By
-- recursion over the lines.
use mathlib.Core.Path.{◌≡◌, refl, sym, ap, ◌∙◌, subst}
use mathlib.Core.Logic.{◌⊎◌, inl, inr, ⊎_elim}
use mathlib.Core.List.{List, [], ◌∷◌, ◌++◌, append_assoc, append-nil}
use Prim.Native.Nat.{ℕ, suc, ◌+◌, ◌<◌}
use native.Mathlib.Omega.{arith}
use lib.ListN.{length, take}
use Rattle.refusal.specs.declared.Refusal.{Refusal}
use Rattle.refusal.specs.declared.Refusal.TheVariants.{Malformed}
use Rattle.refusal.specs.Refusals.{number}
use Rattle.sheet_words.specs.Words.{split, newline}
use Rattle.sheet_words.proofs.Split.{AllClear, some_piece, split-clear}
use Rattle.sheet_words.specs.Steps.{fault, next}
use Rattle.sheet_reading.specs.Sheet.{Sheet, sized}
use Rattle.sheet_reading.specs.Reading.{Meaning, refused, stated}
use Rattle.sheet_reading.proofs.OnePass.{SheetStep, size_step, step, ending, lines, first_line, after, lines_after, first-after}
use Rattle.sheet_question.specs.declared.desk.Due.{Due}
use Rattle.sheet_question.specs.declared.desk.Due.TheVariants.{Team, Known, Held, Make, Asks}
use Rattle.sheet_reading.specs.Grammar.{ended}
use Rattle.sheet_reading.specs.Place.{BeginsSheet, all_ended}
use Rattle.sheet_reading.proofs.LineByLine.{in_line, lines_split, first-split}
use Rattle.sheet_reading.proofs.SoFar.{so_far, WellSoFar, begins_less, so_far_begins, Good}
use Rattle.sheet_reading.proofs.GoodLines.{size_good, step_good}

-- r at line L, after the text `before`, from line K on, where the sheet goes on with these pieces; `run` is what comes of another text in their place
pub record At (before : List ℕ) (pieces : List (List ℕ)) (run : List ℕ → Meaning) (K : ℕ) (r : Refusal) (L : ℕ) : Type 0 where
  pub taken : ℕ
  pub place : L ≡ K + taken
  pub inside : taken < length pieces
  pub begun : BeginsSheet (before ++ all_ended (take taken pieces))
  pub formed : (r ≡ Malformed L) ⊎ ((number r ≡ 22 → ⊥) × (suc taken < length pieces) × BeginsSheet (before ++ all_ended (take (suc taken) pieces)))
  pub same : suc taken < length pieces → (rest : List ℕ) → run (all_ended (take (suc taken) pieces) ++ rest) ≡ refused r L

abbrev pub Placed : List ℕ → List (List ℕ) → (List ℕ → Meaning) → ℕ → Meaning → Type 0
Placed before pieces run K (refused r L) = At before pieces run K r L
Placed before pieces run K (stated w) = Unit

module _ (before : List ℕ) (run : List ℕ → Meaning) (K : ℕ) (b : BeginsSheet before) where
  begun-here : (pieces : List (List ℕ)) → BeginsSheet (before ++ all_ended (take 0 pieces))
  unfolding all_ended
  begun-here pieces = subst BeginsSheet (sym (append-nil before)) b

  -- in what follows the last byte 10
  at_last : (piece : List ℕ) → At before (piece ∷ []) run K (Malformed K) K
  at_last piece = record {
    taken = 0;
    place = omega arith;
    inside = omega arith;
    begun = begun-here (piece ∷ []);
    formed = inl refl;
    same = λ l. absurd (omega arith);
  }

  -- in a line, or after it
  at-step : (line : List ℕ) (st : SheetStep) (another : List ℕ) (more : List (List ℕ)) → Good K (before ++ ended line) st →
      ((rest : List ℕ) → run (ended line ++ rest) ≡ after K (split newline rest) st) →
      ((d : Due) (u : Sheet) → WellSoFar d u →
      Placed (so_far d u) (another ∷ more) (λ s. lines (suc K) d u (split newline s)) (suc K) (lines (suc K) d u (another ∷ more))) →
      Placed before (line ∷ another ∷ more) run K (after K (another ∷ more) st)
  unfolding all_ended
  at-step line (fault r) another more g e f = record {
    taken = 0;
    place = omega arith;
    inside = omega arith;
    begun = begun-here (line ∷ another ∷ more);
    formed = ⊎_elim inl (λ f. inr (f.0, omega arith, subst (λ (s : List ℕ). BeginsSheet (before ++ s)) (sym (append-nil (ended line))) f.1)) g;
    same = λ l rest. ap (λ (s : List ℕ). run (s ++ rest)) (append-nil (ended line)) ∙ e rest;
  }
  at-step line (next (d, u)) another more g e f = onward (lines (suc K) d u (another ∷ more)) (f d u g.0)
    where
      onward : (o : Meaning) → Placed (so_far d u) (another ∷ more) (λ s. lines (suc K) d u (split newline s)) (suc K) o → Placed before (line ∷ another ∷ more) run K o
      onward (refused r L) a =
          let moved : (s : List ℕ) → BeginsSheet (so_far d u ++ s) → BeginsSheet (before ++ (ended line ++ s)) =
          λ s k. subst BeginsSheet (append_assoc before (ended line) s) (subst (λ (t : List ℕ). BeginsSheet (t ++ s)) g.1 k) in
          record {
            taken = suc a.taken;
            place = omega (arith, a.place);
            inside = omega (arith, a.inside);
            begun = moved (all_ended (take a.taken (another ∷ more))) a.begun;
            formed = ⊎_elim inl (λ k. inr (k.0, omega (arith, k.1), moved (all_ended (take (suc a.taken) (another ∷ more))) k.2)) a.formed;
            same = λ l rest.
                (let t : List ℕ = all_ended (take (suc a.taken) (another ∷ more)) in
                ap run (append_assoc (ended line) t rest) ∙ e (t ++ rest) ∙ a.same (omega arith) rest);
          }
      onward (stated w) a = tt

lines_placed : (more : List (List ℕ)) (line : List ℕ) (K : ℕ) (due : Due) (v : Sheet) → AllClear newline (line ∷ more) → WellSoFar due v →
    Placed (so_far due v) (line ∷ more) (λ s. lines K due v (split newline s)) K (lines K due v (line ∷ more))
unfolding lines
lines_placed [] rest K due v c h = by_due due v rest h
  where
    by_due : (due : Due) (v : Sheet) (rest : List ℕ) → WellSoFar due v → Placed (so_far due v) (rest ∷ []) (λ s. lines K due v (split newline s)) K (ending due v rest K)
    by_due Team v rest h = at_last (so_far Team v) (λ s. lines K Team v (split newline s)) K (so_far_begins Team v h) rest
    by_due Known v rest h = at_last (so_far Known v) (λ s. lines K Known v (split newline s)) K (so_far_begins Known v h) rest
    by_due Held v rest h = at_last (so_far Held v) (λ s. lines K Held v (split newline s)) K (so_far_begins Held v h) rest
    by_due Make v rest h = at_last (so_far Make v) (λ s. lines K Make v (split newline s)) K (so_far_begins Make v h) rest
    by_due Asks v [] h = tt
    by_due Asks v (x ∷ rest) h = at_last (so_far Asks v) (λ s. lines K Asks v (split newline s)) K (so_far_begins Asks v h) (x ∷ rest)
lines_placed (another ∷ more) line K due v c h =
    let run : List ℕ → Meaning = λ s. lines K due v (split newline s) in
    subst (Placed (so_far due v) (line ∷ another ∷ more) run K) (sym (lines_after K due v line another more))
    (at-step (so_far due v) run K (so_far_begins due v h) line (step K due v line) another more
    (step_good K due v line h (in_line line c.0))
    (λ rest. lines_split K due v line rest c.0)
    (λ d u k. lines_placed more another (suc K) d u c.1 k))

pub empty_begins : BeginsSheet []
unfolding sized
empty_begins =
    begins_less [] (so_far Team (sized 1 1))
    (so_far_begins Team (sized 1 1) ((record { settings_least = omega arith; settings_most = omega arith; posts_least = omega arith; posts_most = omega arith; rules = tt }, refl, refl)))

first_placed : (line : List ℕ) (more : List (List ℕ)) → AllClear newline (line ∷ more) → Placed [] (line ∷ more) (λ s. first_line (split newline s)) 1 (first_line (line ∷ more))
unfolding first_line
first_placed rest [] c = at_last [] (λ s. first_line (split newline s)) 1 empty_begins rest
first_placed line (another ∷ more) c =
    let run : List ℕ → Meaning = λ s. first_line (split newline s) in
    subst (Placed [] (line ∷ another ∷ more) run 1) (sym (first-after line another more))
    (at-step [] run 1 empty_begins line (size_step line) another more
    (size_good line)
    (λ rest. first-split line rest c.0)
    (λ d u k. lines_placed more another 2 d u c.1 k))

-- the whole sheet
pub sheet_placed : (s : List ℕ) → Placed [] (split newline s) (λ t. first_line (split newline t)) 1 (first_line (split newline s))
sheet_placed s =
    some_piece newline (λ q. AllClear newline q → Placed [] q (λ t. first_line (split newline t)) 1 (first_line q)) (λ p ps c. first_placed p ps c) s (split-clear newline s)
