-- A second leg line by line: lines that are passed over, then its team's, then what a question has from `make` on. And what it names is there.
use mathlib.Core.Path.{◌≡◌, refl, sym, ap, ◌∙◌, subst, subst₂}
use mathlib.Core.Bool.{Bool, true, false, cond}
use mathlib.Core.List.{List, [], ◌∷◌}
use Prim.Native.Nat.{ℕ, suc, ◌+◌, ◌≤◌, ◌<◌}
use native.Mathlib.Numerals.{add-one}
use lib.ListN.{length}
use borrow.Author.Tests.{lt-ltb, le-ltb}
use Rattle.refusal.specs.declared.Refusal.{Refusal}
use Rattle.refusal.specs.declared.Refusal.TheVariants.{Malformed, SheetLength}
use Rattle.std.proofs.Common.{Result}
use Rattle.sheet_words.specs.declared.Fault.{Fault}
use Rattle.sheet_words.specs.Words.{newline, split, passed_over}
use Rattle.sheet_words.specs.Steps.{fault, next}
use Rattle.sheet_words.proofs.Split.{some_piece}
use Rattle.sheet_question.specs.Asked.{Asked, nothing_asked}
use Rattle.sheet_question.specs.LineSteps.{AskedStep, team_step}
use Rattle.sheet_question.specs.Second.{from_team, second_from, second_meaning}
use Rattle.sheet_question.specs.declared.desk.Due.{Due}
use Rattle.sheet_question.specs.declared.desk.Due.TheVariants.{Make}
use Rattle.sheet_question.specs.declared.desk.AskedDesk.{AskedDesk}
use Rattle.sheet_question.specs.Question.{QuestionMeaning, refused, asked_from}
use Rattle.sheet_question.specs.Reads.{within, ReadsQuestion}

-- ---- the team's line and then the others

module _ (n m L : ℕ) (pieces : List (List ℕ)) where
  pub team-faults : {st : AskedStep} {why : Refusal} → st ≡ fault why → from_team n m L pieces st ≡ refused why L
  team-faults e = ap (from_team n m L pieces) e

  pub team_goes_on : {st : AskedStep} {due : Due} {a : Asked} → st ≡ next (due, a) → from_team n m L pieces st ≡ asked_from true n m (L + 1) Make a pieces
  team_goes_on {st} {due} {a} e = ap (from_team n m L pieces) e ∙ ap (λ (k : ℕ). asked_from true n m k Make a pieces) (sym (add-one L))

-- ---- one line and then the others

module _ (n m : ℕ) where
  -- what comes of a text from line L on, from whether that line is passed over
  abbrev pub over_or : ℕ → List ℕ → List (List ℕ) → Bool → QuestionMeaning
  over_or L line pieces true = second_from n m (suc L) pieces
  over_or L line pieces false = from_team n m L pieces (team_step m L nothing_asked line)

  pub second-after : (L : ℕ) (line another : List ℕ) (more : List (List ℕ))
      → second_from n m L (line ∷ another ∷ more) ≡ over_or L line (another ∷ more) (passed_over line)
  unfolding second_from
  second-after L line another more = by_test (passed_over line)
    where
      by_test : (b : Bool)
          → (elim b [ true ↦ second_from n m (suc L) (another ∷ more) | false ↦ from_team n m L (another ∷ more) (team_step m L nothing_asked line) ])
          ≡ over_or L line (another ∷ more) b
      by_test true = refl
      by_test false = refl

  second-on : (L : ℕ) (line rest : List ℕ) → second_from n m L (line ∷ split newline rest) ≡ over_or L line (split newline rest) (passed_over line)
  second-on L line rest = some_piece newline (λ q. second_from n m L (line ∷ q) ≡ over_or L line q (passed_over line)) (second-after L line) rest

  -- ---- by the first line of what is left

  module _ (L : ℕ) (s : List ℕ) where
    pub second-ends : split newline s ≡ s ∷ [] → second_from n m L (split newline s) ≡ refused (Malformed L) L
    unfolding second_from
    second-ends p = ap (second_from n m L) p

    module _ (line rest : List ℕ) (p : split newline s ≡ line ∷ split newline rest) where
      second_by : {b : Bool} → passed_over line ≡ b → second_from n m L (split newline s) ≡ over_or L line (split newline rest) b
      second_by e = ap (second_from n m L) p ∙ second-on L line rest ∙ ap (over_or L line (split newline rest)) e

      pub second_passes : passed_over line ≡ true → second_from n m (L + 1) (split newline rest) ≡ second_from n m L (split newline s)
      second_passes e = ap (λ (k : ℕ). second_from n m k (split newline rest)) (add-one L) ∙ sym (second_by e)

      pub second-begins : passed_over line ≡ false → second_from n m L (split newline s) ≡ from_team n m L (split newline rest) (team_step m L nothing_asked line)
      second-begins e = second_by e

-- ---- the whole

module _ (before n m : ℕ) (s : List ℕ) where
  pub second_too_long : 65536 < length s → second_meaning before n m s ≡ refused SheetLength 0
  unfolding second_meaning
  second_too_long h = ap (λ (b : Bool). cond b (refused SheetLength 0) (second_from n m (suc before) (split newline s))) (lt-ltb 65536 (length s) h)

  pub second-not-long : length s ≤ 65536 → second_meaning before n m s ≡ second_from n m (suc before) (split newline s)
  unfolding second_meaning
  second-not-long h = ap (λ (b : Bool). cond b (refused SheetLength 0) (second_from n m (suc before) (split newline s))) (le-ltb 65536 (length s) h)

pub second-read : (before settings posts : ℕ) (s : List ℕ) {n m : ℕ} (x : Result AskedDesk Fault)
    → n ≡ within 7 settings → m ≡ within 8 posts → length s ≤ 65536
    → ReadsQuestion n (second_from n m (before + 1) (split newline s)) x
    → ReadsQuestion (within 7 settings) (second_meaning before (within 7 settings) (within 8 posts) s) x
second-read before settings posts s {n} {m} x e f h r =
    subst₂ (λ (i j : ℕ). ReadsQuestion i (second_meaning before i j s) x) e f
    (subst (λ (o : QuestionMeaning). ReadsQuestion n o x)
    (ap (λ (L : ℕ). second_from n m L (split newline s)) (add-one before) ∙ sym (second-not-long before n m s h)) r)
