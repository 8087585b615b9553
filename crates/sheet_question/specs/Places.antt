-- The desk with one thing more on it. For the functions of this crate alone.
use Rattle.std.specs.Prelude.{List, ℕ, ◌+◌, ◌*◌}
use Rattle.std.proofs.lemmas.List.Edits.{sets}
use Rattle.question.specs.declared.Question.{Question}
use Rattle.sheet_question.specs.declared.desk.AskedDesk.{AskedDesk}

-- the desk from what it holds
abbrev pub asked_laid : Question → List ℕ → ℕ → List ℕ → AskedDesk
asked_laid question make asks learn = record { question = question; make = make; asks = asks; learn = learn }

abbrev pub naming : ℕ → ℕ → ℕ → ℕ → Question
naming team known values held = record { team = team; known = known; values = values; held = held }

-- the desk with one part changed
abbrev pub team_desk : AskedDesk → ℕ → AskedDesk
team_desk a team = asked_laid (naming team a.question.known a.question.values a.question.held) a.make a.asks a.learn

abbrev pub known_desk : AskedDesk → ℕ → ℕ → AskedDesk
known_desk a known values = asked_laid (naming a.question.team known values a.question.held) a.make a.asks a.learn

abbrev pub held_desk : AskedDesk → ℕ → AskedDesk
held_desk a held = asked_laid (naming a.question.team a.question.known a.question.values held) a.make a.asks a.learn

abbrev pub make_desk : AskedDesk → List ℕ → AskedDesk
make_desk a t = asked_laid a.question t a.asks a.learn

unfoldable pub learn_desk : AskedDesk → List ℕ → AskedDesk
learn_desk a t = asked_laid a.question a.make (a.asks + 1) (sets a.learn (16 * a.asks) t)
