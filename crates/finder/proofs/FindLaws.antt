-- Refusals 6 to 13 in their order: a question's own come first, and a valid question leaves 13 alone.
use mathlib.Core.Path.{sym, subst}
use mathlib.Core.List.{List, [], ◌∷◌}
use Prim.Native.Nat.{ℕ, ◌^◌, ◌≤◌, ◌<◌}
use native.Mathlib.Omega.{arith}
use lib.ListN.{length}
use Rattle.refusal.specs.declared.Refusal.{Refusal}
use Rattle.refusal.specs.declared.Refusal.TheVariants.{RankRoom}
use Rattle.refusal.specs.Order.{when, First, Clear}
use Rattle.refusal.proofs.OrderLaws.{first-left, first-right, first-when, clear-append, clear-when, clear_none}
use Rattle.book_sound.specs.Rows.{settings_of}
use Rattle.book_sound.proofs.SoundLaws.{sound-settings}
use Rattle.knowledge.specs.Goal.{Goal}
use Rattle.question.specs.Rows.{question_rows}
use Rattle.question.specs.Asks.{ValidQuestion}
use Rattle.question.specs.declared.Question.{Question}
use Rattle.question.proofs.RowLaws.{question_clear}
use Rattle.finder.specs.Finds.{find_rows}

pub early : (book : List ℕ) (q : Question) (goal : Goal) (ranks : List ℕ) {r : Refusal} → First (question_rows book q goal) r
    → First (find_rows book q goal ranks) r
unfolding find_rows
early book q goal ranks f = first-left (when (length ranks < 7 ^ settings_of book) (RankRoom 0) ∷ []) f

module _ {book : List ℕ} {q : Question} {goal : Goal} {n m : ℕ} (v : ValidQuestion book q goal n m) (ranks : List ℕ) where
  pub short-table : length ranks < 7 ^ n → First (find_rows book q goal ranks) (RankRoom 0)
  unfolding find_rows
  short-table l = first-right (question_clear v) (first-when (subst (λ (n : ℕ). length ranks < 7 ^ n) (sym (sound-settings v.sound)) l))

  pub find_clear : 7 ^ n ≤ length ranks → Clear (find_rows book q goal ranks)
  unfolding find_rows
  find_clear h =
      clear-append (question_clear v)
      (clear-when (λ l. omega (arith, h, subst (λ (x : ℕ). length ranks < 7 ^ x) (sound-settings v.sound) l)) clear_none)
