-- What each line of a question does, over n settings and m posts: it is at fault, or something more is asked. "22, 23, the formula's number", in this
-- order. A line of another form than the one that is due is 22. L is the number of the line.
use Rattle.std.specs.Prelude.{Bool, true, false, ◌&&◌, List, [], ◌∷◌, ◌++◌, ℕ, ltb, length, drop}
use Rattle.ground.specs.Text.{bytes}
use Rattle.refusal.specs.declared.Refusal.TheVariants.{Malformed}
use Rattle.sheet_words.specs.Words.{begins, passed_over}
use Rattle.sheet_words.specs.Steps.{Step, next, unless, unless_refused, names_step}
use Rattle.sheet_question.specs.Asked.{Asked, holding, team_as, known_as, held_as, make_as, asks_as, known_settings}
use Rattle.sheet_question.specs.Forms.{is_team, team_of, is_known, known_of, is_held, held_of}
use Rattle.sheet_question.specs.declared.desk.Due.{Due}
use Rattle.sheet_question.specs.declared.desk.Due.TheVariants.{Team, Known, Held, Make, Asks}

-- a step leaves what is due next, and what is asked so far
abbrev pub AskedStep : Type 0
AskedStep = Step (Due × Asked)

-- what is asked with one line more
unfoldable pub with_team : Asked → List ℕ → Asked
with_team a line = team_as a (team_of line)

unfoldable pub with_known : Asked → List ℕ → Asked
with_known a line = known_as a (known_of line)

unfoldable pub with_held : Asked → List ℕ → Asked
with_held a line = held_as a (holding (held_of line))

unfoldable pub with_make : Asked → List ℕ → Asked
with_make a F = make_as a F

unfoldable pub with_ask : Asked → List ℕ → Asked
with_ask a F = asks_as a (a.asks ++ (F ∷ []))

-- `team`: "23 [..] post [..] named twice"
unfoldable pub team_step : ℕ → ℕ → Asked → List ℕ → AskedStep
team_step m L a line = names_step L (is_team m line) (team_of line) (next (Known, with_team a line))

-- `known`: "23 [..] setting named twice"
unfoldable pub known_step : ℕ → ℕ → Asked → List ℕ → AskedStep
known_step n L a line = names_step L (is_known n line) (known_settings (known_of line)) (next (Held, with_known a line))

-- `held`: "a setting named twice 23"; a setting may be both known and held
unfoldable pub held_step : ℕ → ℕ → Asked → List ℕ → AskedStep
held_step n L a line = names_step L (is_held n line) (held_of line) (next (Make, with_held a line))

unfoldable pub make_step : ℕ → ℕ → Asked → List ℕ → AskedStep
make_step n L a line = unless (begins (bytes "make ") line) (Malformed L) (unless_refused n (drop 5 line) (next (Asks, with_make a (drop 5 line))))

-- "up to four `ask F`"
unfoldable pub ask_step : ℕ → ℕ → Asked → List ℕ → AskedStep
ask_step n L a line =
    unless (begins (bytes "ask ") line && ltb (length a.asks) 4) (Malformed L) (unless_refused n (drop 4 line) (next (Asks, with_ask a (drop 4 line))))

-- where the line `held` may come, "directly after" `known`, "optional": that line, by its first bytes, or the line `make F`
abbrev pub held_or : {A : Type 0} → Bool → Step A → Step A → Step A
held_or true held make = held
held_or false held make = make

unfoldable pub held_or_make : ℕ → ℕ → Asked → List ℕ → AskedStep
held_or_make n L a line = held_or (begins (bytes "held") line) (held_step n L a line) (make_step n L a line)

-- the line that is due
abbrev pub due_step : ℕ → ℕ → ℕ → Due → Asked → List ℕ → AskedStep
due_step n m L Team a line = team_step m L a line
due_step n m L Known a line = known_step n L a line
due_step n m L Held a line = held_or_make n L a line
due_step n m L Make a line = make_step n L a line
due_step n m L Asks a line = ask_step n L a line

-- "lines that begin with `#` and empty lines are passed over": such a line changes nothing
abbrev pub unless_passed : Bool → Due → Asked → AskedStep → AskedStep
unless_passed true due a later = next (due, a)
unless_passed false due a later = later

-- a line of a text that may have such lines (`passes`) or may not
unfoldable pub line_step : Bool → ℕ → ℕ → ℕ → Due → Asked → List ℕ → AskedStep
line_step passes n m L due a line = unless_passed (passes && passed_over line) due a (due_step n m L due a line)
