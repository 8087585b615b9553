-- What rows say of a question, by computing: what the search finds is tested, and compared with the row. `find` and the plan check have one answer alone.
use mathlib.Core.Path.{◌≡◌, refl, subst₂}
use mathlib.Core.Logic.{inr}
use mathlib.Core.List.{List}
use mathlib.Core.Bool.{Bool, false, ◌&&◌}
use Prim.Native.Nat.{ℕ, ◌≤◌}
use lib.Dec.{T, eqb, eqb→eq}
use lib.ListN.{length}
use Rattle.std.specs.Prelude.{Err}
use Rattle.ground.proofs.Bools.{and_left, and_right}
use Rattle.refusal.specs.declared.Refusal.{Refusal}
use Rattle.refusal.specs.Refusals.{number, place}
use Rattle.plan.specs.Bytes.{encode}
use Rattle.plan.specs.Check.{Verdict, accepted, faulty, check}
use Rattle.plancheck.specs.Refusals.{refusal_of}
use Rattle.plancheck.specs.Checks.{Checks}
use Rattle.plancheck.proofs.OneAnswer.{checks-one}
use Rattle.sheet_reading.specs.Sheet.{Sheet}
use Rattle.sheet_reading.specs.Grammar.{WellFormed}
use Rattle.sheet_reading.specs.Reading.{stated}
use Rattle.sheet.specs.Answer.{SheetAsks}
use Rattle.sheet.proofs.SheetQuestion.{asked-valid, asked_lawful}
use Rattle.marked.specs.Row.{Of, Reaches, NoneReaches, Faults}
use Rattle.marked.proofs.Asked.{rights_in, question_in, goal_in}
use Rattle.marked.proofs.Search.{Certificate}
use Rattle.marked.proofs.Found.{book_in, system_in, start_in, shows, shown-asks, shown-written, shown-least, catches, caught_asks, caught_none}
use Rattle.marked.proofs.OneAnswer.{answers, one_reach, one_cannot, all-ranks}

-- ---- `reach`

module _ (s : Sheet) (w : WellFormed s) (c : Certificate) (t : T (shows s c)) where
  found-reaches : Reaches c.height (encode c.plan) s.size.settings (book_in s) (question_in s) (goal_in s)
  found-reaches ranks room l big =
      let a = shown-asks s w c t in
      let v = asked-valid w a in
      let law = asked_lawful w a in
      let least = shown-least s w c t in
      let written = shown-written s w c t in
      let filled = all-ranks law ranks l in (
        (filled.0, inr (s.size.settings, s.size.posts, v, l, filled.1, (least, (c.plan, written, refl, big, refl)))),
        λ r ranks' room' f. one_reach law w.ruled.settings_most (start_in s) room room' c.height c.plan least written big r (answers v ranks room l r ranks' room' f),
      )

  pub reached : (h : ℕ) (plan : List ℕ) → c.height ≡ h → encode c.plan ≡ plan → Of (stated s) (Reaches h plan)
  reached h plan e f = (
    rights_in s,
    question_in s,
    goal_in s,
    shown-asks s w c t,
    subst₂ (λ (i : ℕ) (p : List ℕ). Reaches i p s.size.settings (book_in s) (question_in s) (goal_in s)) e f found-reaches,
  )

-- ---- `cannot`

module _ (s : Sheet) (w : WellFormed s) (states : List ℕ) (t : T (catches s states)) where
  pub unreached : Of (stated s) NoneReaches
  unreached =
      let a = caught_asks s w states t in
      let none = caught_none s w states t in
      let v = asked-valid w a in
      let law = asked_lawful w a in (
        rights_in s,
        question_in s,
        goal_in s,
        a,
        λ ranks room l.
            let filled = all-ranks law ranks l in (
              (filled.0, inr (s.size.settings, s.size.posts, v, l, filled.1, (none, refl))),
              λ r ranks' room' f. one_cannot law w.ruled.settings_most (start_in s) room room' none r (answers v ranks room l r ranks' room' f),
            ),
      )

-- ---- the plan check

abbrev pub fault_so : Verdict → ℕ → ℕ → Bool
fault_so accepted x p = false
fault_so (faulty f i) x p = eqb (number (refusal_of f i)) x && eqb (place (refusal_of f i)) p

module _ (s : Sheet) (w : WellFormed s) (a : SheetAsks s (rights_in s) (question_in s) (goal_in s)) (plan : List ℕ) (short : length plan ≤ 32640) (x p : ℕ) where
  by_verdict : (v : Verdict) → check (system_in s) (start_in s) plan ≡ v → T (fault_so v x p) → Faults plan x p s.size.settings (book_in s) (question_in s) (goal_in s)
  by_verdict accepted e h = absurd h
  by_verdict (faulty f i) e h =
      let r : Refusal = refusal_of f i in
      let yes : Checks (book_in s) (question_in s) (goal_in s) plan (Err r) =
      inr (f, i, refl, record { n = s.size.settings; m = s.size.posts; valid = asked-valid w a; short = short; judged = e })
      in (
        r,
        eqb→eq (number r) x (and_left (eqb (number r) x) (eqb (place r) p) h),
        eqb→eq (place r) p (and_right (eqb (number r) x) (eqb (place r) p) h),
        yes,
        λ answer k. checks-one (book_in s) (question_in s) (goal_in s) plan answer (Err r) k yes,
      )

  pub judged : T (fault_so (check (system_in s) (start_in s) plan) x p) → Of (stated s) (Faults plan x p)
  judged h = (rights_in s, question_in s, goal_in s, a, by_verdict (check (system_in s) (start_in s) plan) refl h)
