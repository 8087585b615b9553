-- Which refusal a question meets, from what the code found: a sound book leaves its rows behind, and each row after it the ones before.
use mathlib.Core.Path.{sym, subst}
use mathlib.Core.List.{List, [], ◌∷◌}
use Prim.Native.Nat.{ℕ}
use Rattle.refusal.specs.declared.Refusal.{Refusal}
use Rattle.refusal.specs.declared.Refusal.TheVariants.{Team, Known, Goal as WrongGoal, Held}
use Rattle.refusal.specs.Order.{Row, when, First, Clear}
use Rattle.refusal.proofs.OrderLaws.{first-when, first_past, first-left, first-right, clear-append, clear-past, clear_none}
use Rattle.book_sound.specs.Sound.{Sound}
use Rattle.book_sound.specs.Rows.{settings_of, posts_of, book_rows}
use Rattle.book_sound.proofs.SoundLaws.{sound-settings, sound-posts, sound-clear}
use Rattle.knowledge.specs.Goal.{Goal}
use Rattle.question.specs.Rows.{TeamFits, KnownFits, HeldFits, GoalFits, question_rows}
use Rattle.question.specs.Asks.{ValidQuestion}
use Rattle.question.specs.declared.Question.{Question}

module _ (book : List ℕ) (q : Question) (goal : Goal) where
  -- the rows after the book's own
  abbrev pub own_rows : List Row
  own_rows =
      when (TeamFits (posts_of book) q.team → ⊥) Team
      ∷ when (KnownFits (settings_of book) q.known q.values → ⊥) Known
      ∷ when (HeldFits (settings_of book) q.held → ⊥) Held
      ∷ when (GoalFits (settings_of book) goal → ⊥) WrongGoal
      ∷ []

  pub book_row : {r : Refusal} → First (book_rows book) r → First (question_rows book q goal) r
  unfolding question_rows
  book_row f = first-left own_rows f

  module _ {n m : ℕ} (s : Sound book n m) where
    later : {r : Refusal} → First own_rows r → First (question_rows book q goal) r
    unfolding question_rows
    later f = first-right (sound-clear s) f

    team_in : TeamFits m q.team → TeamFits (posts_of book) q.team
    team_in t = subst (λ (m : ℕ). TeamFits m q.team) (sym (sound-posts s)) t

    known_in : KnownFits n q.known q.values → KnownFits (settings_of book) q.known q.values
    known_in t = subst (λ (n : ℕ). KnownFits n q.known q.values) (sym (sound-settings s)) t

    held_in : HeldFits n q.held → HeldFits (settings_of book) q.held
    held_in t = subst (λ (n : ℕ). HeldFits n q.held) (sym (sound-settings s)) t

    goal_in : GoalFits n goal → GoalFits (settings_of book) goal
    goal_in t = subst (λ (n : ℕ). GoalFits n goal) (sym (sound-settings s)) t

    pub team-row : (TeamFits m q.team → ⊥) → First (question_rows book q goal) Team
    team-row f = later (first-when (λ t. f (subst (λ (m : ℕ). TeamFits m q.team) (sound-posts s) t)))

    module _ (team : TeamFits m q.team) where
      pub known-row : (KnownFits n q.known q.values → ⊥) → First (question_rows book q goal) Known
      known-row f =
          later (first_past (team_in team) (first-when (λ k. f (subst (λ (n : ℕ). KnownFits n q.known q.values) (sound-settings s) k))))

      module _ (known : KnownFits n q.known q.values) where
        pub held-row : (HeldFits n q.held → ⊥) → First (question_rows book q goal) Held
        held-row f =
            later
            (first_past (team_in team)
            (first_past (known_in known) (first-when (λ h. f (subst (λ (n : ℕ). HeldFits n q.held) (sound-settings s) h)))))

        module _ (held : HeldFits n q.held) where
          pub goal-row : (GoalFits n goal → ⊥) → First (question_rows book q goal) WrongGoal
          goal-row f =
              later
              (first_past (team_in team)
              (first_past (known_in known)
              (first_past (held_in held) (first-when (λ h. f (subst (λ (n : ℕ). GoalFits n goal) (sound-settings s) h))))))

          pub fits-clear : GoalFits n goal → Clear (question_rows book q goal)
          unfolding question_rows
          fits-clear h =
              clear-append (sound-clear s)
              (clear-past (team_in team) (clear-past (known_in known) (clear-past (held_in held) (clear-past (goal_in h) clear_none))))

-- a valid question meets none
pub question_clear : {book : List ℕ} {q : Question} {goal : Goal} {n m : ℕ} → ValidQuestion book q goal n m → Clear (question_rows book q goal)
question_clear {book} {q} {goal} v = fits-clear book q goal v.sound v.team v.known v.held v.goal
