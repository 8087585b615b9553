-- Lines are counted on: with `before` lines in front a text means what it means alone, with `before` added to the line of its refusal. Line by line.
-- And how far lines go.
use mathlib.Core.Path.{◌≡◌, refl, sym, subst, subst₂}
use mathlib.Core.Logic.{inl, inr}
use mathlib.Core.Bool.{Bool, true, false, not, ◌&&◌}
use mathlib.Core.List.{List, [], ◌∷◌}
use Prim.Native.Nat.{ℕ, suc, ◌+◌, ◌≤◌}
use native.Mathlib.Omega.{arith}
use native.Mathlib.Numerals.{add-one}
use lib.Dec.{ltb}
use lib.ListN.{length, drop}
use Rattle.ground.specs.Text.{bytes}
use Rattle.ground.proofs.Bools.{lt_or_ge}
use Rattle.refusal.specs.declared.Refusal.{Refusal}
use Rattle.refusal.specs.declared.Refusal.TheVariants.{Malformed, Twice}
use Rattle.refusal.specs.Refusals.{number}
use Rattle.formula.specs.Computed.{formula_answer}
use Rattle.std.proofs.Common.{Result, Ok, Err}
use Rattle.sheet_words.specs.Words.{split, newline, begins, passed_over, twice}
use Rattle.sheet_words.specs.Steps.{fault, next, unless, unless_answered, unless_refused, names_step}
use Rattle.sheet_words.proofs.Split.{split-length}
use Rattle.sheet_question.specs.Asked.{Asked, nothing_asked, known_settings}
use Rattle.sheet_question.specs.Forms.{is_team, team_of, is_known, known_of, is_held, held_of}
use Rattle.sheet_question.specs.LineSteps.{AskedStep, with_team, with_known, with_held, with_make, with_ask, team_step, known_step, held_step, make_step, ask_step}
use Rattle.sheet_question.specs.LineSteps.{held_or, held_or_make, due_step, unless_passed, line_step}
use Rattle.sheet_question.specs.Question.{QuestionMeaning, refused, asked, ending, asked_from, question_meaning}
use Rattle.sheet_question.specs.declared.desk.Due.{Due}
use Rattle.sheet_question.specs.declared.desk.Due.TheVariants.{Team, Known, Held, Make, Asks}
use Rattle.sheet_question.proofs.ReadLaws.{after, asked-after, too_long, not-long}

-- ---- counted on

-- the second meaning is the first one with `before` lines in front: the same number at a line that is counted on, or the same asked
abbrev pub CountedOn : ℕ → QuestionMeaning → QuestionMeaning → Type 0
CountedOn before (refused r line) (refused why at) = (number why ≡ number r) × (at ≡ before + line)
CountedOn before (refused r line) (asked b) = ⊥
CountedOn before (asked a) (refused why at) = ⊥
CountedOn before (asked a) (asked b) = b ≡ a

-- and so with one line
abbrev StepOn : AskedStep → AskedStep → Type 0
StepOn (fault r) (fault why) = number why ≡ number r
StepOn (fault r) (next x) = ⊥
StepOn (next x) (fault why) = ⊥
StepOn (next (d, a)) (next (e, b)) = (e ≡ d) × (b ≡ a)

on-unless : (b : Bool) (r why : Refusal) (x y : AskedStep) → number why ≡ number r → StepOn x y → StepOn (unless b r x) (unless b why y)
on-unless true r why x y e h = h
on-unless false r why x y e h = e

on-refused : (n : ℕ) (F : List ℕ) (x y : AskedStep) → StepOn x y → StepOn (unless_refused n F x) (unless_refused n F y)
unfolding unless_refused
on-refused n F x y h = by_answer (formula_answer n F)
  where
    by_answer : (a : Result (Unit {0}) Refusal) → StepOn (unless_answered a x) (unless_answered a y)
    by_answer (Ok y) = h
    by_answer (Err r) = refl

on-names : (before L : ℕ) (form : Bool) (names : List ℕ) (x y : AskedStep) → StepOn x y → StepOn (names_step L form names x) (names_step (before + L) form names y)
on-names before L form names x y h =
    on-unless form (Malformed L) (Malformed (before + L)) _ _ refl (on-unless (not (twice (λ i. false) names)) (Twice L) (Twice (before + L)) x y refl h)

on-held : (b : Bool) (x y v w : AskedStep) → StepOn x y → StepOn v w → StepOn (held_or b x v) (held_or b y w)
on-held true x y v w h k = h
on-held false x y v w h k = k

on-make : (n before L : ℕ) (a : Asked) (line : List ℕ) → StepOn (make_step n L a line) (make_step n (before + L) a line)
unfolding make_step
on-make n before L a line =
    on-unless (begins (bytes "make ") line) (Malformed L) (Malformed (before + L)) _ _ refl
    (on-refused n (drop 5 line) (next (Asks, with_make a (drop 5 line))) (next (Asks, with_make a (drop 5 line))) (refl, refl))

on_due : (n m before L : ℕ) (due : Due) (a : Asked) (line : List ℕ) → StepOn (due_step n m L due a line) (due_step n m (before + L) due a line)
unfolding team_step known_step held_step held_or_make ask_step
on_due n m before L Team a line = on-names before L (is_team m line) (team_of line) (next (Known, with_team a line)) (next (Known, with_team a line)) (refl, refl)
on_due n m before L Known a line =
    on-names before L (is_known n line) (known_settings (known_of line)) (next (Held, with_known a line)) (next (Held, with_known a line)) (refl, refl)
on_due n m before L Held a line =
    on-held (begins (bytes "held") line) _ _ (make_step n L a line) (make_step n (before + L) a line)
    (on-names before L (is_held n line) (held_of line) (next (Make, with_held a line)) (next (Make, with_held a line)) (refl, refl))
    (on-make n before L a line)
on_due n m before L Make a line = on-make n before L a line
on_due n m before L Asks a line =
    on-unless (begins (bytes "ask ") line && ltb (length a.asks) 4) (Malformed L) (Malformed (before + L)) _ _ refl
    (on-refused n (drop 4 line) (next (Asks, with_ask a (drop 4 line))) (next (Asks, with_ask a (drop 4 line))) (refl, refl))

on_line : (passes : Bool) (n m before L : ℕ) (due : Due) (a : Asked) (line : List ℕ) → StepOn (line_step passes n m L due a line) (line_step passes n m (before + L) due a line)
unfolding line_step
on_line passes n m before L due a line = by_passed (passes && passed_over line)
  where
    by_passed : (b : Bool) → StepOn (unless_passed b due a (due_step n m L due a line)) (unless_passed b due a (due_step n m (before + L) due a line))
    by_passed true = (refl, refl)
    by_passed false = on_due n m before L due a line

on_end : (before L : ℕ) (due : Due) (a : Asked) (rest : List ℕ) → CountedOn before (ending due a rest L) (ending due a rest (before + L))
on_end before L Team a rest = (refl, refl)
on_end before L Known a rest = (refl, refl)
on_end before L Held a rest = (refl, refl)
on_end before L Make a rest = (refl, refl)
on_end before L Asks a [] = refl
on_end before L Asks a (c ∷ rest) = (refl, refl)

module _ (passes : Bool) (n m before : ℕ) where
  on-after : (L : ℕ) (pieces : List (List ℕ)) (x y : AskedStep)
      → ((d : Due) (b : Asked) → CountedOn before (asked_from passes n m (suc L) d b pieces) (asked_from passes n m (suc (before + L)) d b pieces))
      → StepOn x y → CountedOn before (after passes n m L pieces x) (after passes n m (before + L) pieces y)
  on-after L pieces (fault r) (fault why) more h = (h, refl)
  on-after L pieces (fault r) (next (e, b)) more h = absurd h
  on-after L pieces (next (d, a)) (fault why) more h = absurd h
  on-after L pieces (next (d, a)) (next (e, b)) more h =
      subst₂ (λ (x : Due) (y : Asked). CountedOn before (asked_from passes n m (suc L) d a pieces) (asked_from passes n m (suc (before + L)) x y pieces)) (sym h.0) (sym h.1) (more d a)

  pub asked-counted : (L : ℕ) (due : Due) (a : Asked) (pieces : List (List ℕ)) → CountedOn before (asked_from passes n m L due a pieces) (asked_from passes n m (before + L) due a pieces)
  unfolding asked_from
  asked-counted L due a [] = (refl, refl)
  asked-counted L due a (rest ∷ []) = on_end before L due a rest
  asked-counted L due a (line ∷ another ∷ more) =
      subst₂ (CountedOn before) (sym (asked-after passes n m L due a line another more)) (sym (asked-after passes n m (before + L) due a line another more))
      (on-after L (another ∷ more) (line_step passes n m L due a line) (line_step passes n m (before + L) due a line)
      (λ d b. subst (λ (k : ℕ). CountedOn before (asked_from passes n m (suc L) d b (another ∷ more)) (asked_from passes n m k d b (another ∷ more)))
      {x = before + suc L} {y = suc (before + L)} (omega arith) (asked-counted (suc L) d b (another ∷ more)))
      (on_line passes n m before L due a line))

-- ---- how far lines go

abbrev pub LineMost : ℕ → QuestionMeaning → Type 0
LineMost most (refused r line) = line ≤ most
LineMost most (asked a) = Unit

module _ (passes : Bool) (n m : ℕ) where
  end_most : (L : ℕ) (due : Due) (a : Asked) (rest : List ℕ) → LineMost (L + 1) (ending due a rest L)
  end_most L Team a rest = omega arith
  end_most L Known a rest = omega arith
  end_most L Held a rest = omega arith
  end_most L Make a rest = omega arith
  end_most L Asks a [] = tt
  end_most L Asks a (c ∷ rest) = omega arith

  after-most : (L k : ℕ) (pieces : List (List ℕ)) (x : AskedStep) → ((d : Due) (b : Asked) → LineMost (suc L + k) (asked_from passes n m (suc L) d b pieces))
      → LineMost (suc L + k) (after passes n m L pieces x)
  after-most L k pieces (fault r) more = omega arith
  after-most L k pieces (next (d, b)) more = more d b

  pub lines-most : (L : ℕ) (due : Due) (a : Asked) (pieces : List (List ℕ)) → LineMost (L + length pieces) (asked_from passes n m L due a pieces)
  unfolding asked_from
  lines-most L due a [] = omega arith
  lines-most L due a (rest ∷ []) = end_most L due a rest
  lines-most L due a (line ∷ another ∷ more) =
      subst (λ (o : QuestionMeaning). LineMost (L + length (line ∷ another ∷ more)) o) (sym (asked-after passes n m L due a line another more))
      (subst (λ (k : ℕ). LineMost k (after passes n m L (another ∷ more) (line_step passes n m L due a line))) {x = suc L + length (another ∷ more)} (omega arith)
      (after-most L (length (another ∷ more)) (another ∷ more) (line_step passes n m L due a line) (λ d b. lines-most (suc L) d b (another ∷ more))))

-- ---- the whole text

most-up : (k l : ℕ) (o : QuestionMeaning) → k ≤ l → LineMost k o → LineMost l o
most-up k l (refused r line) h p = omega (arith, h, p)
most-up k l (asked a) h p = tt

module _ (before : ℕ) (passes : Bool) (n m : ℕ) (s : List ℕ) where
  -- "the question's line counted on from the rules' lines"
  pub counted-on : length s ≤ 65536 → CountedOn before (question_meaning 0 passes n m s) (question_meaning before passes n m s)
  counted-on h =
      subst₂ (CountedOn before) (sym (not-long 0 passes n m s h)) (sym (not-long before passes n m s h))
      (subst (λ (L : ℕ). CountedOn before (asked_from passes n m 1 Team nothing_asked (split newline s)) (asked_from passes n m L Team nothing_asked (split newline s))) (add-one before)
      (asked-counted passes n m before 1 Team nothing_asked (split newline s)))

  -- a text has at most 65,537 pieces
  pub line-most : LineMost (before + 65538) (question_meaning before passes n m s)
  line-most = elim (lt_or_ge 65536 (length s)) [
    | inl h ↦ subst (LineMost (before + 65538)) (sym (too_long before passes n m s h)) (omega arith)
    | inr h ↦ subst (LineMost (before + 65538)) (sym (not-long before passes n m s h))
        (most-up (suc before + length (split newline s)) (before + 65538) (asked_from passes n m (suc before) Team nothing_asked (split newline s))
        (omega (arith, split-length newline s)) (lines-most passes n m (suc before) Team nothing_asked (split newline s)))
  ]
