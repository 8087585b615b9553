-- Each way out of the functions for a line of names: what its tests found is whether the line has the form, and what the step does.
use mathlib.Core.Path.{◌≡◌, refl, sym, ap, ap₂, ◌∙◌, subst}
use mathlib.Core.Logic.{inl, inr}
use mathlib.Core.Bool.{Bool, true, false, not, ◌&&◌, ◌||◌, cond}
use mathlib.Core.List.{List, []}
use Prim.Native.Nat.{ℕ, ◌+◌, ◌-◌, ◌≤◌, ◌<◌}
use lib.Dec.{eqb}
use Rattle.std.proofs.Common.{Result, Ok, Err, Option, Some, None}
use native.Mathlib.Omega.{arith}
use lib.ListN.{length, get_or, take, drop, get_or-eq_default}
use borrow.Author.Tests.{eq-eqb, ne_eqb}
use Rattle.ground.specs.Text.{bytes}
use Rattle.ground.proofs.Bools.{lt_or_ge}
use Rattle.refusal.specs.declared.Refusal.{Refusal}
use Rattle.refusal.specs.declared.Refusal.TheVariants.{Malformed, Twice}
use Rattle.sheet_words.specs.Words.{member, split, space, begins, all_names, indexes}
use Rattle.sheet_words.specs.Marks.{Marked, Names, are_names}
use Rattle.sheet_words.specs.declared.names.Marks.{Marks}
use Rattle.sheet_words.proofs.Pieces.{tail}
use Rattle.sheet_words.proofs.NameLaws.{few_enough, names_stray, names_of, stray_names, of_names, marked-none}
use Rattle.sheet_question.specs.Asked.{Asked, known_settings}
use Rattle.sheet_words.specs.Steps.{fault, next, unless, names_step}
use Rattle.sheet_question.specs.Desk.{AskedOnDesk, Steps}
use Rattle.sheet_question.specs.Places.{team_desk, known_desk, held_desk}
use Rattle.sheet_question.specs.Forms.{name_words, is_names, is_team, team_of, is_known, known_of, is_held, held_of}
use Rattle.sheet_question.specs.Names.{NamesTaken}
use Rattle.sheet_question.specs.LineSteps.{AskedStep, with_team, with_known, with_held, team_step, known_step, held_step}
use Rattle.sheet_question.specs.declared.desk.Due.TheVariants.{Known, Held, Make}
use Rattle.sheet_question.specs.declared.desk.AskedDesk.{AskedDesk}
use Rattle.sheet_question.proofs.Turns.{taken}
use Rattle.sheet_question.proofs.DeskLaws.{known-settings, known_true_lem, holds-team, holds-known, holds-held}

-- a byte that is there
pub inside : (line : List ℕ) (i : ℕ) → get_or line i 0 ≡ 32 → i < length line
inside line i e = elim (lt_or_ge i (length line)) [ inl h ↦ h | inr h ↦ absurd (let z : ◌≡◌ {A = ℕ} 0 32 = sym (get_or-eq_default line 0 h) ∙ e in omega arith) ]

-- ---- the form of a line of names

module _ (w : List ℕ) (alone signed : Bool) (first count : ℕ) (line : List ℕ) where
  -- the word alone, and with names
  words_none : length line ≡ length w → name_words w line ≡ []
  unfolding name_words
  words_none e = ap (λ (b : Bool). cond b [] (split space (drop (length w + 1) line))) (eq-eqb (length line) (length w) e)

  words_some : (length line ≡ length w → ⊥) → name_words w line ≡ split space (take (length line - (length w + 1)) (drop (length w + 1) line))
  unfolding name_words
  words_some e =
      ap (λ (b : Bool). cond b [] (split space (drop (length w + 1) line))) (ne_eqb (length line) (length w) e)
      ∙ ap (split space) (sym (tail line (length w + 1)))

  names_by : (a b c e : Bool) → begins w line ≡ a → eqb (length line) (length w) ≡ b → eqb (get_or line (length w) 0) space ≡ c
      → all_names signed first count (name_words w line) ≡ e → is_names w alone signed first count line ≡ (a && (alone && b || c) && e)
  unfolding is_names
  names_by a b c e p q r s = rw (p, q, r, s) refl

  stray : is_names w alone signed first count line ≡ false → Names (is_names w alone signed first count line) first (name_words w line) None
  stray e = names_stray (is_names w alone signed first count line) first (name_words w line) e

  pub names-other : begins w line ≡ false → Names (is_names w alone signed first count line) first (name_words w line) None
  names-other e = stray (names_by false _ _ _ e refl refl refl)

  module _ (e : begins w line ≡ true) where
    pub names_alone : length line ≡ length w → alone ≡ true
        → Names (is_names w alone signed first count line) first (name_words w line) (Some (record { named = 0; values = 0; twice = false }))
    unfolding all_names
    names_alone l o =
        names_of (is_names w alone signed first count line) first (name_words w line) (record { named = 0; values = 0; twice = false })
        (names_by true true _ true e (eq-eqb (length line) (length w) l) refl (ap (all_names signed first count) (words_none l))
        ∙ ap (λ (a : Bool). true && (a && true || eqb (get_or line (length w) 0) space) && true) o)
        (subst (λ (ws : List (List ℕ)). Marked first ws (record { named = 0; values = 0; twice = false })) (sym (words_none l)) (marked-none first))

    -- nothing follows the word, which may not stand alone
    pub names_unaccompanied : length line ≡ length w → alone ≡ false → Names (is_names w alone signed first count line) first (name_words w line) None
    names_unaccompanied l o =
        stray (names_by true _ false _ e refl (ne_eqb (get_or line (length w) 0) space past) refl
        ∙ ap (λ (a : Bool). true && (a && eqb (length line) (length w) || false) && all_names signed first count (name_words w line)) o)
      where
        past : get_or line (length w) 0 ≡ space → ⊥
        past c = let z : ◌≡◌ {A = ℕ} 0 32 = sym (get_or-eq_default line 0 (omega (arith, l))) ∙ c in omega arith

    pub names_spaceless : (length line ≡ length w → ⊥) → (get_or line (length w) 0 ≡ space → ⊥) → Names (is_names w alone signed first count line) first (name_words w line) None
    names_spaceless l c =
        stray (names_by true false false _ e (ne_eqb (length line) (length w) l) (ne_eqb (get_or line (length w) 0) space c) refl ∙ neither alone)
      where
        neither : (a : Bool) → (true && (a && false || false) && all_names signed first count (name_words w line)) ≡ false
        neither true = refl
        neither false = refl

    pub names-some : (length line ≡ length w → ⊥) → get_or line (length w) 0 ≡ space → count ≤ 8 → (r : Option Marks)
        → (let ws : List (List ℕ) = split space (take (length line - (length w + 1)) (drop (length w + 1) line)) in Names (are_names signed first count ws) first ws r)
        → Names (is_names w alone signed first count line) first (name_words w line) r
    names-some l c few r k =
        subst (λ (b : Bool). Names b first (name_words w line) r)
        (few_enough signed first count (name_words w line) few ∙ sym (names_by true _ true _ e refl (eq-eqb (get_or line (length w) 0) space c) refl ∙ either (alone && eqb (length line) (length w))))
        (subst (λ (ws : List (List ℕ)). Names (are_names signed first count ws) first ws r) (sym (words_some l)) k)
      where
        either : (b : Bool) → (true && (b || true) && all_names signed first count (name_words w line)) ≡ all_names signed first count (name_words w line)
        either true = refl
        either false = refl

-- ---- what becomes of it

module _ (L : ℕ) (form : Bool) (first : ℕ) (words : List (List ℕ)) (r : Option Marks) (n : Names form first words r) where
  pub names-malformed : r ≡ None → NamesTaken L form first words (Err (Malformed L))
  names-malformed e later = ap (λ (b : Bool). names_step L b (indexes first words) later) (stray_names form first words r n e)

  module _ (marks : Marks) (e : r ≡ Some marks) where
    by_twice : (t : Bool) → marks.twice ≡ t → (later : AskedStep) → names_step L form (indexes first words) later ≡ unless (not t) (Twice L) later
    by_twice t f later =
        let o = of_names form first words r n e in
        ap₂ (λ (a b : Bool). unless a (Malformed L) (unless (not b) (Twice L) later)) o.0 (sym o.1.again ∙ f)

    pub names-twice : marks.twice ≡ true → NamesTaken L form first words (Err (Twice L))
    names-twice f later = by_twice true f later

    pub names_once : marks.twice ≡ false → NamesTaken L form first words (Ok marks)
    names_once f = (by_twice false f, (of_names form first words r n e).1)

-- ---- `team`, `known` and `held`

module _ (n L : ℕ) (a : Asked) (d : AskedDesk) (h : AskedOnDesk n a d) (line : List ℕ) (m : ℕ) where
  abbrev Named : List ℕ → Bool → Bool → ℕ → Result Marks Refusal → Type 0
  Named w alone signed first r = NamesTaken L (is_names w alone signed first m line) first (name_words w line) r

  pub team-not : {why : Refusal} → Named (bytes "team") false false 49 (Err why) → team_step m L a line ≡ fault why
  unfolding is_team team_step team_of
  team-not k = k (next (Known, with_team a line))

  pub team-taken : (marks : Marks) → Named (bytes "team") false false 49 (Ok marks) → Steps n (team_step m L a line) (Ok (record { due = Known; desk = team_desk d marks.named }))
  unfolding is_team team_step team_of
  team-taken marks k = taken n (k.0 (next (Known, with_team a line))) (holds-team n a d h line marks.named k.1.named)

  settings-named : known_settings (known_of line) ≡ indexes 97 (name_words (bytes "known") line)
  unfolding known_of
  settings-named = known-settings (name_words (bytes "known") line)

  known_step_lem : (later : AskedStep) → names_step L (is_known m line) (known_settings (known_of line)) later
      ≡ names_step L (is_known m line) (indexes 97 (name_words (bytes "known") line)) later
  known_step_lem later = ap (λ (names : List ℕ). names_step L (is_known m line) names later) settings-named

  pub known-not : {why : Refusal} → Named (bytes "known") true true 97 (Err why) → known_step m L a line ≡ fault why
  unfolding is_known known_step
  known-not k = known_step_lem (next (Held, with_known a line)) ∙ k (next (Held, with_known a line))

  pub known-taken : (marks : Marks) → Named (bytes "known") true true 97 (Ok marks)
      → Steps n (known_step m L a line) (Ok (record { due = Held; desk = known_desk d marks.named marks.values }))
  unfolding is_known known_step known_of
  known-taken marks k =
      taken n (known_step_lem (next (Held, with_known a line)) ∙ k.0 (next (Held, with_known a line)))
      (holds-known n a d h line marks.named marks.values
      (λ i. k.1.named i ∙ ap (member i) (sym settings-named))
      (λ i. k.1.values i ∙ ap (member i) (sym (known_true_lem (name_words (bytes "known") line)))))

  pub held-not : {why : Refusal} → Named (bytes "held") true false 97 (Err why) → held_step m L a line ≡ fault why
  unfolding is_held held_step held_of
  held-not k = k (next (Make, with_held a line))

  pub held-taken : (marks : Marks) → Named (bytes "held") true false 97 (Ok marks) → Steps n (held_step m L a line) (Ok (record { due = Make; desk = held_desk d marks.named }))
  unfolding is_held held_step held_of
  held-taken marks k = taken n (k.0 (next (Make, with_held a line))) (holds-held n a d h line marks.named k.1.named)
