-- What a second leg names is there: a post at least, posts of the m alone, and no settings. And how far its lines go. Line by line.
use mathlib.Core.Path.{sym, subst}
use mathlib.Core.Bool.{Bool, true, false, not}
use mathlib.Core.List.{List, [], ◌∷◌}
use Prim.Native.Nat.{ℕ, suc, ◌+◌}
use native.Mathlib.Omega.{arith}
use lib.Dec.{T}
use lib.ListN.{length}
use Rattle.refusal.specs.declared.Refusal.TheVariants.{Malformed, Twice}
use Rattle.sheet_words.specs.Words.{passed_over, member, twice}
use Rattle.sheet_words.specs.Steps.{fault, next, unless}
use Rattle.sheet_question.specs.Asked.{nothing_asked, known_settings}
use Rattle.sheet_question.specs.Forms.{is_team, team_of}
use Rattle.sheet_question.specs.LineSteps.{AskedStep, with_team, team_step}
use Rattle.sheet_question.specs.Second.{from_team, second_from}
use Rattle.sheet_question.specs.declared.desk.Due.TheVariants.{Known, Make}
use Rattle.sheet_question.proofs.SecondLaws.{over_or, second-after}
use Rattle.sheet_question.proofs.Fits.{SoFar, KnownFits, MeaningFits, begun_first, begun_kept, team-fits, fits_from}
use Rattle.sheet_question.proofs.Counted.{LineMost, lines-most}

-- the line `team` leaves what is known, and that is nothing
nothing_known : (n : ℕ) (line : List ℕ) → KnownFits n (with_team nothing_asked line)
unfolding with_team known_settings member
nothing_known n line i none = absurd none

module _ (n m : ℕ) where
  fits-team : (L : ℕ) (line : List ℕ) (pieces : List (List ℕ)) → MeaningFits n m (from_team n m L pieces (team_step m L nothing_asked line))
  unfolding team_step
  fits-team L line pieces =
      by_form (is_team m line) (not (twice (λ i. false) (team_of line)))
      (λ f. (begun_kept n nothing_asked line (begun_first n), team-fits m nothing_asked line f, nothing_known n line))
    where
      by_form : (f t : Bool) → (T f → SoFar n m Make (with_team nothing_asked line))
          → MeaningFits n m (from_team n m L pieces (unless f (Malformed L) (unless t (Twice L) (next (Known, with_team nothing_asked line)))))
      by_form false t h = tt
      by_form true false h = tt
      by_form true true h = fits_from n m true (suc L) Make (with_team nothing_asked line) pieces (h tt)

  pub second_fits : (L : ℕ) (pieces : List (List ℕ)) → MeaningFits n m (second_from n m L pieces)
  unfolding second_from
  second_fits L [] = tt
  second_fits L (rest ∷ []) = tt
  second_fits L (line ∷ another ∷ more) = subst (MeaningFits n m) (sym (second-after n m L line another more)) (by_test (second_fits (suc L) (another ∷ more)) (passed_over line))
    where
      by_test : MeaningFits n m (second_from n m (suc L) (another ∷ more)) → (b : Bool) → MeaningFits n m (over_or n m L line (another ∷ more) b)
      by_test later true = later
      by_test later false = fits-team L line (another ∷ more)

  -- ---- how far its lines go

  most-team : (L : ℕ) (pieces : List (List ℕ)) (st : AskedStep) → LineMost (suc L + length pieces) (from_team n m L pieces st)
  most-team L pieces (fault r) = omega arith
  most-team L pieces (next (due, a)) = lines-most true n m (suc L) Make a pieces

  pub second-most : (L : ℕ) (pieces : List (List ℕ)) → LineMost (L + length pieces) (second_from n m L pieces)
  unfolding second_from
  second-most L [] = omega arith
  second-most L (rest ∷ []) = omega arith
  second-most L (line ∷ another ∷ more) =
      subst (LineMost (L + length (line ∷ another ∷ more))) (sym (second-after n m L line another more))
      (subst (λ (k : ℕ). LineMost k (over_or n m L line (another ∷ more) (passed_over line))) {x = suc L + length (another ∷ more)} (omega arith)
      (by_test (second-most (suc L) (another ∷ more)) (passed_over line)))
    where
      by_test : LineMost (suc L + length (another ∷ more)) (second_from n m (suc L) (another ∷ more)) → (b : Bool)
          → LineMost (suc L + length (another ∷ more)) (over_or n m L line (another ∷ more) b)
      by_test later true = later
      by_test later false = most-team L (another ∷ more) (team_step m L nothing_asked line)
