-- The meaning of a second leg's lines over n settings and m posts: what it asks, or its first refusal. "After it `team`, `make` and up to four `ask` lines
-- (`known` or `held` there is 22)", so in what it asks nothing is known and nothing is held. Lines that begin with `#` and empty lines are passed over.
use Rattle.std.specs.Prelude.{true, false, cond, List, [], ◌∷◌, ℕ, suc, ltb, length}
use Rattle.refusal.specs.declared.Refusal.TheVariants.{Malformed, SheetLength}
use Rattle.sheet_words.specs.Words.{split, newline, passed_over}
use Rattle.sheet_words.specs.Steps.{fault, next}
use Rattle.sheet_question.specs.Asked.{nothing_asked}
use Rattle.sheet_question.specs.LineSteps.{AskedStep, team_step}
use Rattle.sheet_question.specs.Question.{QuestionMeaning, refused, asked_from}
use Rattle.sheet_question.specs.declared.desk.Due.TheVariants.{Make}

-- what comes of the lines after the team's, line L, from what that line does: the make formula is due
abbrev pub from_team : ℕ → ℕ → ℕ → List (List ℕ) → AskedStep → QuestionMeaning
from_team n m L pieces (fault r) = refused r L
from_team n m L pieces (next (due, a)) = asked_from true n m (suc L) Make a pieces

-- the lines from number L on: the first that is not passed over is the team's, and a text that ends before it ends early
unfoldable pub second_from : ℕ → ℕ → ℕ → List (List ℕ) → QuestionMeaning
second_from n m L [] = refused (Malformed L) L
second_from n m L (rest ∷ []) = refused (Malformed L) L
second_from n m L (line ∷ another ∷ more) =
    elim (passed_over line) [ true ↦ second_from n m (suc L) (another ∷ more) | false ↦ from_team n m L (another ∷ more) (team_step m L nothing_asked line) ]

-- the whole text, where so many lines come before it
unfoldable pub second_meaning : ℕ → ℕ → ℕ → List ℕ → QuestionMeaning
second_meaning before n m text = cond (ltb 65536 (length text)) (refused SheetLength 0) (second_from n m (suc before) (split newline text))
