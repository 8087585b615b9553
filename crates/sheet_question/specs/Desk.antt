-- What the desk holds of what is asked so far: each formula as its table, each name as a bit; and what a line does to it.
use Rattle.std.specs.Prelude.{◌≡◌, List, [], ◌∷◌, ◌++◌, ℕ, ◌*◌, ◌≤◌, length, get_or, take, Result, Ok, Err}
use Rattle.ground.specs.Digits.{bit}
use Rattle.refusal.specs.declared.Refusal.{Refusal}
use Rattle.formula.specs.Read.{Accepts}
use Rattle.sheet_words.specs.Words.{member}
use Rattle.sheet_words.specs.Steps.{fault, next}
use Rattle.sheet_question.specs.Asked.{Asked, known_settings, known_true, held_settings}
use Rattle.sheet_question.specs.LineSteps.{AskedStep}
use Rattle.sheet_question.specs.declared.desk.AskedDesk.{AskedDesk}
use Rattle.sheet_question.specs.declared.desk.Turn.{Turn}

-- the tables of some formulas over n settings, one after the other
abbrev pub TablesOf : ℕ → List (List ℕ) → List ℕ → Type 0
TablesOf n [] t = t ≡ []
TablesOf n (F ∷ Fs) t = (a : List ℕ) × (b : List ℕ) × Accepts n F a × TablesOf n Fs b × (t ≡ a ++ b)

-- what is asked so far, over n settings, is on the desk
pub record AskedOnDesk (n : ℕ) (asked : Asked) (d : AskedDesk) : Type 0 where
  pub team : (q : ℕ) → bit d.question.team q ≡ member q asked.team
  pub known : (i : ℕ) → bit d.question.known i ≡ member i (known_settings asked.known)
  pub values : (i : ℕ) → bit d.question.values i ≡ member i (known_true asked.known)
  pub held : (i : ℕ) → bit d.question.held i ≡ member i (held_settings asked.held)
  pub make : Accepts n asked.make d.make
  pub asks : d.asks ≡ length asked.asks
  pub asks_most : d.asks ≤ 4
  pub learn_size : length d.learn ≡ 64
  pub learn : TablesOf n asked.asks (take (16 * d.asks) d.learn)
  pub learn_rest : (j : ℕ) → 16 * d.asks ≤ j → get_or d.learn j 0 ≡ 0

-- what a line does, on the desk
abbrev pub Steps : ℕ → AskedStep → Result Turn Refusal → Type 0
Steps n (fault r) (Err why) = why ≡ r
Steps n (fault r) (Ok turn) = ⊥
Steps n (next (due, asked)) (Err why) = ⊥
Steps n (next (due, asked)) (Ok turn) = (turn.due ≡ due) × AskedOnDesk n asked turn.desk
