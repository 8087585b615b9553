-- A question of two legs: which refusal it meets, from what the code found, that what `ask_two` gives is settled; and that its second leg is a valid
-- question of its own, so that both legs' systems are lawful.
use mathlib.Core.Path.{◌≡◌, refl, sym, ap, ap₂, subst}
use mathlib.Core.List.{List}
use Prim.Native.Nat.{ℕ}
use Rattle.refusal.specs.declared.Refusal.{Refusal}
use Rattle.refusal.specs.declared.Refusal.TheVariants.{Team, Goal as WrongGoal}
use Rattle.refusal.specs.Order.{First, Clear}
use Rattle.refusal.proofs.OrderLaws.{first-when, first_past, first-left, first-right, first_unique, first-clear, clear-append, clear-past, clear_none}
use Rattle.book_sound.specs.Rows.{posts_of}
use Rattle.book_sound.proofs.SoundLaws.{sound-settings, sound-posts}
use Rattle.book_sound.proofs.Theorems.{sound-one}
use Rattle.knowledge.specs.Goal.{Goal}
use Rattle.plan.specs.Plans.{Lawful}
use Rattle.plan.proofs.Legs.{first_lawful}
use Rattle.question.specs.Question.{system_of}
use Rattle.question.specs.Rows.{TeamFits, GoalFits, question_rows}
use Rattle.question.specs.Asks.{ValidQuestion}
use Rattle.question.specs.Legs.{second_question, second_system, first_system, ValidLegs, second_rows, leg_rows, AsksTwo}
use Rattle.question.specs.declared.Question.{Question}
use Rattle.std.proofs.Common.{Result, Ok, Err}
use Rattle.book_sound.specs.declared.Size.{Size}
use Rattle.question.proofs.RowLaws.{question_clear}
use Rattle.question.proofs.SystemLaws.{lawful}

module _ (book : List ℕ) (q : Question) (goal : Goal) (team2 : ℕ) (goal2 : Goal) where
  pub first-row : {r : Refusal} → First (question_rows book q goal) r → First (leg_rows book q goal team2 goal2) r
  unfolding leg_rows
  first-row f = first-left (second_rows book team2 goal2) f

  module _ {n m : ℕ} (v : ValidQuestion book q goal n m) where
    team_in : TeamFits m team2 → TeamFits (posts_of book) team2
    team_in t = subst (λ (m : ℕ). TeamFits m team2) (sym (sound-posts v.sound)) t

    pub second-team-row : (TeamFits m team2 → ⊥) → First (leg_rows book q goal team2 goal2) Team
    unfolding leg_rows
    second-team-row f = first-right (question_clear v) (first-when (λ t. f (subst (λ (m : ℕ). TeamFits m team2) (sound-posts v.sound) t)))

    pub second-goal-row : TeamFits m team2 → (GoalFits n goal2 → ⊥) → First (leg_rows book q goal team2 goal2) WrongGoal
    unfolding leg_rows
    second-goal-row t f =
        first-right (question_clear v)
        (first_past (team_in t) (first-when (λ g. f (subst (λ (n : ℕ). GoalFits n goal2) (sound-settings v.sound) g))))

  -- a valid one meets none
  pub legs_clear : {n m : ℕ} → ValidLegs book q goal team2 goal2 n m → Clear (leg_rows book q goal team2 goal2)
  unfolding leg_rows
  legs_clear v =
      clear-append (question_clear v.first)
      (clear-past (team_in v.first v.second_team)
      (clear-past (subst (λ (n : ℕ). GoalFits n goal2) (sym (sound-settings v.first.sound)) v.second_goal) clear_none))

  -- the second leg is a valid question of its own
  pub second-valid : {n m : ℕ} → ValidLegs book q goal team2 goal2 n m → ValidQuestion book (second_question q team2) goal2 n m
  second-valid v = record { sound = v.first.sound; team = v.second_team; known = v.first.known; held = v.first.held; goal = v.second_goal }

  -- "Held settings are the same for both legs", and so are the rules: what is permitted is the same, by other posts
  pub same-permits : (n : ℕ) → (second_system n book q team2 goal2).permits ≡ (system_of n book q goal).permits
  unfolding system_of
  same-permits n = refl

  pub second_lawful : {n m : ℕ} → ValidLegs book q goal team2 goal2 n m → Lawful n (second_system n book q team2 goal2)
  second_lawful v = lawful (second-valid v)

  pub first_leg_lawful : {n m : ℕ} → ValidLegs book q goal team2 goal2 n m → Lawful n (first_system n book q goal team2 goal2)
  first_leg_lawful {n} v = first_lawful (second_system n book q team2 goal2) (lawful v.first)

  -- any two results that the contract of `ask_two` allows are equal
  pub ask_two_unique : (a b : Result Size Refusal) → AsksTwo book q goal team2 goal2 a → AsksTwo book q goal team2 goal2 b → a ≡ b
  ask_two_unique (Ok a) (Ok b) x y =
      let e = sound-one x.first.sound y.first.sound in ap Ok (ap₂ (λ (n m : ℕ). record { settings = n; posts = m }) e.0 e.1)
  ask_two_unique (Ok size) (Err r) x y = first-clear y (legs_clear x)
  ask_two_unique (Err r) (Ok size) x y = first-clear x (legs_clear y)
  ask_two_unique (Err r) (Err s) x y = ap Err (first_unique x y)
