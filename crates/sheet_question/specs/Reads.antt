-- What is read of a question text, for any numbers of settings and posts.
use Rattle.std.specs.Prelude.{◌≡◌, cond, ℕ, ltb, Result, Ok, Err}
use Rattle.sheet_words.specs.declared.Fault.{Fault}
use Rattle.sheet_question.specs.Question.{QuestionMeaning, refused, asked}
use Rattle.sheet_question.specs.Desk.{AskedOnDesk}
use Rattle.sheet_question.specs.declared.desk.AskedDesk.{AskedDesk}

-- x where it is 1 to `most`, else the nearest of those
unfoldable pub within : ℕ → ℕ → ℕ
within most x = cond (ltb most x) most (cond (ltb x 1) 1 x)

-- the first refusal; or all that is asked, on the desk, over n settings
abbrev pub ReadsQuestion : ℕ → QuestionMeaning → Result AskedDesk Fault → Type 0
ReadsQuestion n (refused r line) (Err f) = (f.why ≡ r) × (f.line ≡ line)
ReadsQuestion n (refused r line) (Ok d) = ⊥
ReadsQuestion n (asked a) (Err f) = ⊥
ReadsQuestion n (asked a) (Ok d) = AskedOnDesk n a d
