-- What is promised of a question text with one leg or two: what each leg names is there, lines go no further than the text, and `read_legs` gives one
-- thing alone.
use mathlib.Core.Path.{◌≡◌, sym, ◌∙◌, subst}
use mathlib.Core.Logic.{inl, inr}
use mathlib.Core.Bool.{Bool, true, false}
use mathlib.Core.List.{List, [], ◌∷◌}
use Prim.Native.Nat.{ℕ, suc, ◌+◌, ◌≤◌}
use native.Mathlib.Omega.{arith}
use lib.ListN.{length}
use Rattle.ground.proofs.Bools.{lt_or_ge}
use Rattle.sheet_words.specs.Words.{split, newline}
use Rattle.sheet_words.proofs.Split.{split-length}
use Rattle.sheet_words.proofs.Unique.{fault_one}
use Rattle.sheet_question.specs.Asked.{nothing_asked}
use Rattle.sheet_question.specs.Question.{QuestionMeaning, refused, asked, asked_from}
use Rattle.sheet_question.specs.Second.{second_from}
use Rattle.sheet_question.specs.declared.desk.Due.TheVariants.{Team}
use Rattle.sheet_question.proofs.Fits.{AskedFits, MeaningFits, begun_first, fits_from}
use Rattle.sheet_question.proofs.SecondFits.{second_fits, second-most}
use Rattle.sheet_question.proofs.Counted.{LineMost, lines-most}
use Rattle.sheet_question.proofs.Unique.{asked-one}
use Rattle.sheet_legs.specs.Legs.{is_then, Cut, whole, parted, ahead, cut_lines, LegsMeaning, refused_at, one, two, one_leg, first_then, legs_of, legs_meaning}
use Rattle.sheet_legs.specs.Reads.{ReadsLegs}
use Rattle.sheet_legs.specs.declared.Legs.{Legs}
use Rattle.std.proofs.Common.{Result, Ok, Err, Some, ap}
use Rattle.sheet_words.specs.declared.Fault.{Fault}
use Rattle.sheet_legs.proofs.CutLaws.{then_or, cut_after, legs_too_long, legs_not-long}

-- ---- what each leg names is there

abbrev pub LegsFit : ℕ → ℕ → LegsMeaning → Type 0
LegsFit n m (refused_at r line) = Unit
LegsFit n m (one a) = AskedFits n m a
LegsFit n m (two a b) = AskedFits n m a × AskedFits n m b

module _ (n m : ℕ) where
  fit_one : (o : QuestionMeaning) → MeaningFits n m o → LegsFit n m (one_leg o)
  fit_one (refused r line) h = tt
  fit_one (asked a) h = h

  fit_two : (o u : QuestionMeaning) → MeaningFits n m o → MeaningFits n m u → LegsFit n m (first_then o u)
  fit_two (refused r line) u h k = tt
  fit_two (asked a) (refused r line) h k = tt
  fit_two (asked a) (asked b) h k = (h, k)

  fit_cut : (pieces : List (List ℕ)) (c : Cut) → LegsFit n m (legs_of n m pieces c)
  fit_cut pieces whole = fit_one (asked_from true n m 1 Team nothing_asked pieces) (fits_from n m true 1 Team nothing_asked pieces (begun_first n))
  fit_cut pieces (parted first second) =
      fit_two (asked_from true n m 1 Team nothing_asked first) (second_from n m (suc (length first)) second)
      (fits_from n m true 1 Team nothing_asked first (begun_first n)) (second_fits n m (suc (length first)) second)

  pub legs_fit : (s : List ℕ) → LegsFit n m (legs_meaning n m s)
  legs_fit s = elim (lt_or_ge 65536 (length s)) [
    | inl h ↦ subst (LegsFit n m) (sym (legs_too_long n m s h)) tt
    | inr h ↦ subst (LegsFit n m) (sym (legs_not-long n m s h)) (fit_cut (split newline s) (cut_lines (split newline s)))
  ]

-- ---- how far lines go

-- the two parts have as many pieces as the whole: the empty one at the end of the first stands for the line `then`
abbrev Counts : ℕ → Cut → Type 0
Counts k whole = Unit
Counts k (parted first second) = length first + length second ≡ k

ahead_counts : (line : List ℕ) (k : ℕ) (c : Cut) → Counts k c → Counts (suc k) (ahead line c)
ahead_counts line k whole h = tt
ahead_counts line k (parted first second) h = omega (arith, h)

cut_counts : (pieces : List (List ℕ)) → Counts (length pieces) (cut_lines pieces)
unfolding cut_lines
cut_counts [] = tt
cut_counts (rest ∷ []) = tt
cut_counts (line ∷ another ∷ more) =
    subst (Counts (length (line ∷ another ∷ more))) (sym (cut_after line another more)) (by_test (cut_counts (another ∷ more)) (is_then line))
  where
    by_test : Counts (length (another ∷ more)) (cut_lines (another ∷ more)) → (b : Bool) → Counts (length (line ∷ another ∷ more)) (then_or line (another ∷ more) b)
    by_test later true = omega arith
    by_test later false = ahead_counts line (length (another ∷ more)) (cut_lines (another ∷ more)) later

abbrev pub LegsMost : ℕ → LegsMeaning → Type 0
LegsMost most (refused_at r line) = line ≤ most
LegsMost most (one a) = Unit
LegsMost most (two a b) = Unit

module _ (most : ℕ) where
  most-one : (k : ℕ) (o : QuestionMeaning) → k ≤ most → LineMost k o → LegsMost most (one_leg o)
  most-one k (refused r line) h l = omega (arith, h, l)
  most-one k (asked a) h l = tt

  most-two : (j k : ℕ) (o u : QuestionMeaning) → j ≤ most → k ≤ most → LineMost j o → LineMost k u → LegsMost most (first_then o u)
  most-two j k (refused r line) u h i l p = omega (arith, h, l)
  most-two j k (asked a) (refused r line) h i l p = omega (arith, i, p)
  most-two j k (asked a) (asked b) h i l p = tt

module _ (n m : ℕ) where
  most_cut : (pieces : List (List ℕ)) (c : Cut) → Counts (length pieces) c → LegsMost (length pieces + 1) (legs_of n m pieces c)
  most_cut pieces whole h =
      most-one (length pieces + 1) (1 + length pieces) (asked_from true n m 1 Team nothing_asked pieces) (omega arith) (lines-most true n m 1 Team nothing_asked pieces)
  most_cut pieces (parted first second) h =
      most-two (length pieces + 1) (1 + length first) (suc (length first) + length second) (asked_from true n m 1 Team nothing_asked first)
      (second_from n m (suc (length first)) second) (omega (arith, h)) (omega (arith, h)) (lines-most true n m 1 Team nothing_asked first)
      (second-most n m (suc (length first)) second)

  up : (k l : ℕ) (o : LegsMeaning) → k ≤ l → LegsMost k o → LegsMost l o
  up k l (refused_at r line) h p = omega (arith, h, p)
  up k l (one a) h p = tt
  up k l (two a b) h p = tt

  -- a text has at most 65,537 pieces
  pub legs_most : (s : List ℕ) → LegsMost 65538 (legs_meaning n m s)
  legs_most s = elim (lt_or_ge 65536 (length s)) [
    | inl h ↦ subst (LegsMost 65538) (sym (legs_too_long n m s h)) (omega arith)
    | inr h ↦ subst (LegsMost 65538) (sym (legs_not-long n m s h))
        (up (length (split newline s) + 1) 65538 (legs_of n m (split newline s) (cut_lines (split newline s))) (omega (arith, split-length newline s, h))
        (most_cut (split newline s) (cut_lines (split newline s)) (cut_counts (split newline s))))
  ]

-- ---- one result alone

legs-record : {a b : Legs} → a.first ≡ b.first → a.second ≡ b.second → a ≡ b
legs-record {a} {b} e f = let z : ◌≡◌ {A = Legs} (record { first = a.first; second = a.second }) (record { first = b.first; second = b.second }) = cc in z

pub legs_unique : (n : ℕ) (o : LegsMeaning) (x y : Result Legs Fault) → ReadsLegs n o x → ReadsLegs n o y → x ≡ y
legs_unique n (refused_at r line) (Err f) (Err g) h k = ap Err (fault_one h k)
legs_unique n (one v) (Ok a) (Ok b) (h, e) (k, f) = ap Ok (legs-record (asked-one n v a.first b.first h k) (e ∙ sym f))
legs_unique n (two v w) (Ok a) (Ok b) (h, (d, e, i)) (k, (c, f, j)) =
    ap Ok (legs-record (asked-one n v a.first b.first h k) (e ∙ ap Some (asked-one n w d c i j) ∙ sym f))
legs_unique n (refused_at r line) (Ok a) y h k = elim h [ ]
legs_unique n (refused_at r line) (Err f) (Ok b) h k = elim k [ ]
legs_unique n (one v) (Err f) y h k = elim h [ ]
legs_unique n (one v) (Ok a) (Err g) h k = elim k [ ]
legs_unique n (two v w) (Err f) y h k = elim h [ ]
legs_unique n (two v w) (Ok a) (Err g) h k = elim k [ ]
