-- What `ask` and `permits` give is settled: any two results that their contracts allow are equal.
use mathlib.Core.Path.{◌≡◌, sym, ap, ap₂, ◌∙◌}
use mathlib.Core.List.{List}
use Rattle.refusal.proofs.OrderLaws.{first_unique, first-clear}
use Rattle.book_sound.proofs.Theorems.{sound-one}
use Prim.Native.Nat.{ℕ}
use Rattle.knowledge.specs.Goal.{Goal}
use Rattle.question.specs.Asks.{Asks}
use Rattle.question.specs.declared.Question.{Question}
use Rattle.std.proofs.Common.{Result, Ok, Err}
use Rattle.book_sound.specs.declared.Size.{Size}
use Rattle.refusal.specs.declared.Refusal.{Refusal}
use Rattle.question.proofs.RowLaws.{question_clear}
use Rattle.question.proofs.permit.permits.Reads as permits

module _ (book : List ℕ) (q : Question) (goal : Goal) where
  pub ask_unique : (a b : Result Size Refusal) → Asks book q goal a → Asks book q goal b → a ≡ b
  ask_unique (Ok a) (Ok b) v w = let e = sound-one v.sound w.sound in ap Ok (ap₂ (λ (n m : ℕ). record { settings = n; posts = m }) e.0 e.1)
  ask_unique (Ok size) (Err r) v f = first-clear f (question_clear v)
  ask_unique (Err r) (Ok size) f v = first-clear f (question_clear v)
  ask_unique (Err r) (Err s) f g = ap Err (first_unique f g)

pub permits_unique : (κs : _) (a : _) (x y : _) (s : _) → permits.Post κs a x s → permits.Post κs a y s → x ≡ y
permits_unique κs a x y s p q = p ∙ sym q
