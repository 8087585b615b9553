-- What was read of a question text of one leg, put to a sound book: its desk holds what it asks, and that is a valid question.
use mathlib.Core.Path.{◌≡◌, refl, subst₂}
use mathlib.Core.Bool.{true}
use mathlib.Core.List.{List}
use Prim.Native.Nat.{ℕ}
use Rattle.std.proofs.Common.{Result, Ok}
use Rattle.sheet_words.specs.declared.Fault.{Fault}
use Rattle.book_sound.specs.Sound.{Sound}
use Rattle.question.specs.Asks.{ValidQuestion}
use Rattle.sheet_question.specs.Asked.{Asked}
use Rattle.sheet_question.specs.Desk.{AskedOnDesk}
use Rattle.sheet_question.specs.Question.{QuestionMeaning, refused, asked, question_meaning}
use Rattle.sheet_question.specs.Reads.{within, ReadsQuestion}
use Rattle.sheet_question.specs.declared.desk.AskedDesk.{AskedDesk}
use Rattle.sheet_question.proofs.ReadLaws.{within_same}
use Rattle.sheet_question.proofs.Fits.{asked-fits}
use Rattle.sheet_ask.specs.Inner.{Learnt, question_in, goal_in}
use Rattle.sheet_ask.proofs.AskedQuestion.{asked-valid, desk_asks}

module _ {book : List ℕ} {n m : ℕ} (sound : Sound book n m) (text : List ℕ) where
  -- the book's size is in its bounds
  pub own : (x : Result AskedDesk Fault) → ReadsQuestion (within 7 n) (question_meaning 0 true (within 7 n) (within 8 m) text) x
      → ReadsQuestion n (question_meaning 0 true n m text) x
  own x reads =
      subst₂ (λ (i j : ℕ). ReadsQuestion i (question_meaning 0 true i j text) x)
      (within_same 7 n sound.settings.most sound.settings.least) (within_same 8 m sound.posts.most sound.posts.least) reads

  module _ (d : AskedDesk) (reads : ReadsQuestion (within 7 n) (question_meaning 0 true (within 7 n) (within 8 m) text) (Ok d)) where
    pub whole : (a : Asked) × (question_meaning 0 true n m text ≡ asked a) × AskedOnDesk n a d
    whole = by_meaning (question_meaning 0 true n m text) refl (own (Ok d) reads)
      where
        by_meaning : (o : QuestionMeaning) → question_meaning 0 true n m text ≡ o → ReadsQuestion n o (Ok d)
            → (a : Asked) × (question_meaning 0 true n m text ≡ asked a) × AskedOnDesk n a d
        by_meaning (refused x line) s h = absurd h
        by_meaning (asked a) s h = (a, s, h)

    pub stated-learnt : Learnt d
    stated-learnt = (whole.2.learn_size, whole.2.asks_most)

    pub stated-valid : ValidQuestion book (question_in d) (goal_in d) n m
    stated-valid = asked-valid (asked-fits n m 0 true text whole.0 whole.1) (desk_asks whole.2) sound
