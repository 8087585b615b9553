-- What a question names is there: a post at least, posts of the m alone, settings of the n alone. So refusals 10 to 12 and 31 deny nothing of it. Line by
-- line.
use mathlib.Core.Path.{◌≡◌, sym, ◌∙◌, subst}
use mathlib.Core.Logic.{inl, inr}
use mathlib.Core.Bool.{Bool, true, false, not, ◌&&◌, ◌||◌}
use mathlib.Core.List.{List, [], ◌∷◌, ◌++◌}
use Prim.Native.Nat.{ℕ, suc, ◌+◌, ◌≤◌, ◌<◌}
use native.Mathlib.Omega.{arith}
use lib.Dec.{T, eqb, ltb, eqb→eq, eqb_refl, ltb→lt, not_T}
use lib.ListN.{length, get_or, drop, length-append}
use Rattle.ground.specs.Text.{bytes}
use Rattle.ground.proofs.Bools.{lt_or_ge, or_left, or_out, and_left, and_right, T→false}
use Rattle.refusal.specs.declared.Refusal.{Refusal}
use Rattle.refusal.specs.declared.Refusal.TheVariants.{Malformed, Twice}
use Rattle.formula.specs.Computed.{formula_answer}
use Rattle.std.proofs.Common.{Result, Ok, Err}
use Rattle.sheet_words.specs.Words.{split, newline, space, begins, passed_over, member, is_name, all_names, index_of, indexes, twice}
use Rattle.sheet_words.specs.Steps.{fault, next, unless, unless_answered, unless_refused, names_step}
use Rattle.sheet_words.proofs.Split.{some_piece}
use Rattle.sheet_words.proofs.NameForms.{three, bare-word}
use Rattle.sheet_question.specs.Asked.{Asked, nothing_asked, known_settings, held_settings}
use Rattle.sheet_question.specs.Forms.{name_words, is_names, is_team, team_of, is_known, known_of, is_held, held_of}
use Rattle.sheet_question.specs.LineSteps.{AskedStep, with_team, with_known, with_held, with_make, with_ask, team_step, known_step, held_step, make_step, ask_step}
use Rattle.sheet_question.specs.LineSteps.{held_or, held_or_make, due_step, unless_passed, line_step}
use Rattle.sheet_question.specs.Question.{QuestionMeaning, refused, asked, ending, asked_from, question_meaning}
use Rattle.sheet_question.specs.declared.desk.Due.{Due}
use Rattle.sheet_question.specs.declared.desk.Due.TheVariants.{Team, Known, Held, Make, Asks}
use Rattle.sheet_question.proofs.DeskLaws.{known-settings}
use Rattle.sheet_question.proofs.NameTurns.{inside}
use Rattle.sheet_question.proofs.ReadLaws.{after, asked-after, too_long, not-long}

-- what a question names
pub record AskedFits (n m : ℕ) (a : Asked) : Type 0 where
  pub someone : (q : ℕ) × T (member q a.team)
  pub team : (q : ℕ) → T (member q a.team) → q < m
  pub known : (i : ℕ) → T (member i (known_settings a.known)) → i < n
  pub held : (i : ℕ) → T (member i (held_settings a.held)) → i < n
  pub asks_most : length a.asks ≤ 4

-- ---- a line of names

named-below : (signed : Bool) (first count : ℕ) (words : List (List ℕ)) (i : ℕ) → T (all_names signed first count words) → T (member i (indexes first words)) → i < count
unfolding all_names indexes member
named-below signed first count [] i h t = absurd t
named-below signed first count (w ∷ ws) i h t =
    elim (or_out (eqb (index_of first w) i) (member i (indexes first ws)) t) [
      | inl e ↦ (let s : index_of first w ≡ i = eqb→eq (index_of first w) i e in
          let b = bare-word signed first count w (and_left (is_name signed first count w) (all_names signed first count ws) h) in omega (arith, b.1))
      | inr u ↦ named-below signed first count ws i (and_right (is_name signed first count w) (all_names signed first count ws) h) u
    ]

-- the test of what follows the word: nothing, where that may be, or a space
abbrev Follows : List ℕ → Bool → List ℕ → Bool
Follows w alone line = alone && eqb (length line) (length w) || eqb (get_or line (length w) 0) space

names_parts : (w : List ℕ) (alone signed : Bool) (first count : ℕ) (line : List ℕ) → T (is_names w alone signed first count line)
    → T (Follows w alone line) × T (all_names signed first count (name_words w line))
unfolding is_names
names_parts w alone signed first count line h =
    let parts = three (begins w line) (Follows w alone line) (all_names signed first count (name_words w line)) h in
    (parts.1, parts.2)

-- a line whose word does not stand alone has a name at least
some_word : (w line : List ℕ) → T (Follows w false line) → (P : List (List ℕ) → Type 0) → ((p : List ℕ) (ps : List (List ℕ)) → P (p ∷ ps)) → P (name_words w line)
unfolding name_words
some_word w line h P f =
    let there = inside line (length w) (eqb→eq (get_or line (length w) 0) space h) in
    let long = T→false (eqb (length line) (length w)) (not_T (eqb (length line) (length w)) (λ e. (let size = eqb→eq (length line) (length w) e in omega arith))) in
    rw long (some_piece space P f (drop (length w + 1) line))

-- ---- what the lines name so far

abbrev pub TeamFits : ℕ → Asked → Type 0
TeamFits m a = ((q : ℕ) × T (member q a.team)) × ((q : ℕ) → T (member q a.team) → q < m)

abbrev pub KnownFits : ℕ → Asked → Type 0
KnownFits n a = (i : ℕ) → T (member i (known_settings a.known)) → i < n

-- what holds from the start on: nothing is held and nothing asked
abbrev pub Begun : ℕ → Asked → Type 0
Begun n a = (length a.asks ≤ 4) × ((i : ℕ) → T (member i (held_settings a.held)) → i < n)

pub begun_first : (n : ℕ) → Begun n nothing_asked
unfolding member
begun_first n = (omega arith, λ i none. absurd none)

abbrev pub SoFar : ℕ → ℕ → Due → Asked → Type 0
SoFar n m Team a = Begun n a
SoFar n m Known a = Begun n a × TeamFits m a
SoFar n m Held a = Begun n a × TeamFits m a × KnownFits n a
SoFar n m Make a = Begun n a × TeamFits m a × KnownFits n a
SoFar n m Asks a = Begun n a × TeamFits m a × KnownFits n a

pub team-fits : (m : ℕ) (a : Asked) (line : List ℕ) → T (is_team m line) → TeamFits m (with_team a line)
unfolding is_team with_team team_of indexes member
team-fits m a line h =
    let parts = names_parts (bytes "team") false false 49 m line h in (
      some_word (bytes "team") line parts.0 (λ ws. (q : ℕ) × T (member q (indexes 49 ws))) some,
      λ q t. named-below false 49 m (name_words (bytes "team") line) q parts.1 t,
    )
  where
    some : (p : List ℕ) (ps : List (List ℕ)) → (q : ℕ) × T (member q (indexes 49 (p ∷ ps)))
    some p ps = (index_of 49 p, or_left (eqb (index_of 49 p) (index_of 49 p)) (member (index_of 49 p) (indexes 49 ps)) (eqb_refl (index_of 49 p)))

known-fits : (n : ℕ) (a : Asked) (line : List ℕ) → T (is_known n line) → KnownFits n (with_known a line)
unfolding is_known with_known known_of
known-fits n a line h i t =
    named-below true 97 n (name_words (bytes "known") line) i (names_parts (bytes "known") true true 97 n line h).1
    (subst (λ (is : List ℕ). T (member i is)) (known-settings (name_words (bytes "known") line)) t)

-- the line `held` leaves the team, what is known and the formulas
held_fits : (n m : ℕ) (a : Asked) (line : List ℕ) → T (is_held n line) → SoFar n m Held a → SoFar n m Make (with_held a line)
unfolding is_held with_held held_of
held_fits n m a line h ((asks, none), team, known) =
    ((asks, λ i t. named-below false 97 n (name_words (bytes "held") line) i (names_parts (bytes "held") true false 97 n line h).1 t), team, known)

-- the line `known` leaves the team, what is held and the formulas, and `team` the last two
team-kept : (n m : ℕ) (a : Asked) (line : List ℕ) → SoFar n m Known a → SoFar n m Known (with_known a line)
unfolding with_known
team-kept n m a line h = h

pub begun_kept : (n : ℕ) (a : Asked) (line : List ℕ) → Begun n a → Begun n (with_team a line)
unfolding with_team
begun_kept n a line h = h

-- one formula more, where there are fewer than four
one_more : (a : Asked) (F : List ℕ) → T (ltb (length a.asks) 4) → length (a.asks ++ (F ∷ [])) ≤ 4
one_more a F t = omega (arith, length-append a.asks (F ∷ []), ltb→lt (length a.asks) 4 t)

-- ---- one line

abbrev StepFits : ℕ → ℕ → AskedStep → Type 0
StepFits n m (fault r) = Unit
StepFits n m (next (d, a)) = SoFar n m d a

module _ (n m : ℕ) where
  fits-unless : (b : Bool) (r : Refusal) (later : AskedStep) → (T b → StepFits n m later) → StepFits n m (unless b r later)
  fits-unless true r later f = f tt
  fits-unless false r later f = tt

  fits_refused : (k : ℕ) (F : List ℕ) (later : AskedStep) → StepFits n m later → StepFits n m (unless_refused k F later)
  unfolding unless_refused
  fits_refused k F later h = by_answer (formula_answer k F)
    where
      by_answer : (a : Result (Unit {0}) Refusal) → StepFits n m (unless_answered a later)
      by_answer (Ok x) = h
      by_answer (Err r) = tt

  fits-names : (L : ℕ) (form : Bool) (names : List ℕ) (later : AskedStep) → (T form → StepFits n m later) → StepFits n m (names_step L form names later)
  fits-names L form names later h = fits-unless form (Malformed L) _ (λ f. fits-unless (not (twice (λ i. false) names)) (Twice L) later (λ t. h f))

  fits-held : (b : Bool) (x y : AskedStep) → StepFits n m x → StepFits n m y → StepFits n m (held_or b x y)
  fits-held true x y h k = h
  fits-held false x y h k = k

  fits-make : (L : ℕ) (a : Asked) (line : List ℕ) → SoFar n m Make a → StepFits n m (make_step n L a line)
  unfolding make_step with_make
  fits-make L a line h =
      fits-unless (begins (bytes "make ") line) (Malformed L) _ (λ f. fits_refused n (drop 5 line) (next (Asks, with_make a (drop 5 line))) h)

  fits_due : (L : ℕ) (due : Due) (a : Asked) (line : List ℕ) → SoFar n m due a → StepFits n m (due_step n m L due a line)
  unfolding team_step known_step held_step held_or_make ask_step with_ask
  fits_due L Team a line h = fits-names L (is_team m line) (team_of line) (next (Known, with_team a line)) (λ f. (begun_kept n a line h, team-fits m a line f))
  fits_due L Known a line h =
      fits-names L (is_known n line) (known_settings (known_of line)) (next (Held, with_known a line))
      (λ f. (let k = team-kept n m a line h in (k.0, k.1, known-fits n a line f)))
  fits_due L Held a line h =
      fits-held (begins (bytes "held") line) _ (make_step n L a line)
      (fits-names L (is_held n line) (held_of line) (next (Make, with_held a line)) (λ f. held_fits n m a line f h))
      (fits-make L a line h)
  fits_due L Make a line h = fits-make L a line h
  fits_due L Asks a line h =
      fits-unless (begins (bytes "ask ") line && ltb (length a.asks) 4) (Malformed L) _
      (λ f. fits_refused n (drop 4 line) (next (Asks, with_ask a (drop 4 line))) ((one_more a (drop 4 line) (and_right (begins (bytes "ask ") line) (ltb (length a.asks) 4) f), h.0.1), h.1, h.2))

  fits_line : (passes : Bool) (L : ℕ) (due : Due) (a : Asked) (line : List ℕ) → SoFar n m due a → StepFits n m (line_step passes n m L due a line)
  unfolding line_step
  fits_line passes L due a line h = by_passed (passes && passed_over line)
    where
      by_passed : (b : Bool) → StepFits n m (unless_passed b due a (due_step n m L due a line))
      by_passed true = h
      by_passed false = fits_due L due a line h

  -- ---- the whole

  abbrev pub MeaningFits : QuestionMeaning → Type 0
  MeaningFits (refused r line) = Unit
  MeaningFits (asked a) = AskedFits n m a

  fits_end : (L : ℕ) (due : Due) (a : Asked) (rest : List ℕ) → SoFar n m due a → MeaningFits (ending due a rest L)
  fits_end L Team a rest h = tt
  fits_end L Known a rest h = tt
  fits_end L Held a rest h = tt
  fits_end L Make a rest h = tt
  fits_end L Asks a [] h = record { someone = h.1.0; team = h.1.1; known = h.2; held = h.0.1; asks_most = h.0.0 }
  fits_end L Asks a (c ∷ rest) h = tt

  fits_after : (passes : Bool) (L : ℕ) (pieces : List (List ℕ)) (x : AskedStep) → ((d : Due) (b : Asked) → SoFar n m d b → MeaningFits (asked_from passes n m (suc L) d b pieces))
      → StepFits n m x → MeaningFits (after passes n m L pieces x)
  fits_after passes L pieces (fault r) more h = tt
  fits_after passes L pieces (next (d, b)) more h = more d b h

  pub fits_from : (passes : Bool) (L : ℕ) (due : Due) (a : Asked) (pieces : List (List ℕ)) → SoFar n m due a → MeaningFits (asked_from passes n m L due a pieces)
  unfolding asked_from
  fits_from passes L due a [] h = tt
  fits_from passes L due a (rest ∷ []) h = fits_end L due a rest h
  fits_from passes L due a (line ∷ another ∷ more) h =
      subst MeaningFits (sym (asked-after passes n m L due a line another more))
      (fits_after passes L (another ∷ more) (line_step passes n m L due a line) (λ d b k. fits_from passes (suc L) d b (another ∷ more) k) (fits_line passes L due a line h))

  pub asked-fits : (before : ℕ) (passes : Bool) (s : List ℕ) (a : Asked) → question_meaning before passes n m s ≡ asked a → AskedFits n m a
  asked-fits before passes s a e = elim (lt_or_ge 65536 (length s)) [
    | inl h ↦ absurd (not_both (sym (too_long before passes n m s h) ∙ e))
    | inr h ↦ subst MeaningFits (sym (not-long before passes n m s h) ∙ e) (fits_from passes (suc before) Team nothing_asked (split newline s) (begun_first n))
  ]
    where
      not_both : {r : Refusal} {line : ℕ} → refused r line ≡ asked a → ⊥
      not_both z = let y : ◌≡◌ {A = ℕ} 0 1 = cc in omega arith
