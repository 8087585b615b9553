-- What a question text asks: "`team G ..` (one or more); `known` with settings, `~` before a false one, or alone; `make F`; up to four `ask F`
-- (learn)." And "`held`, a line like `known` without `~`, directly after it, optional". Formulas are kept as their text.
use Rattle.std.specs.Prelude.{Bool, cond, List, [], ◌∷◌, ℕ}
use Rattle.ground.specs.Text.{bytes}

-- a setting of the line `known`, and its value
pub record Known : Type 0 where
  pub setting : ℕ
  pub value : Bool

-- the line `held`: it is left out, or it is there and names these settings; "`held` alone is allowed and holds nothing"
pub data HeldLine : Type 0 where
  left_out : HeldLine
  holding : List ℕ → HeldLine

-- what is asked: the lines from `team` on, each list in their order
pub record Asked : Type 0 where
  pub team : List ℕ
  pub known : List Known
  pub held : HeldLine
  pub make : List ℕ
  pub asks : List (List ℕ)

-- nothing is asked yet; the text `0` stands for the make formula until its line comes
abbrev pub nothing_asked : Asked
nothing_asked = record { team = []; known = []; held = left_out; make = bytes "0"; asks = [] }

-- what is asked with another team, other settings known, others held, another make formula, other formulas to learn
abbrev pub team_as : Asked → List ℕ → Asked
team_as a team = record { team = team; known = a.known; held = a.held; make = a.make; asks = a.asks }

abbrev pub known_as : Asked → List Known → Asked
known_as a known = record { team = a.team; known = known; held = a.held; make = a.make; asks = a.asks }

abbrev pub held_as : Asked → HeldLine → Asked
held_as a held = record { team = a.team; known = a.known; held = held; make = a.make; asks = a.asks }

abbrev pub make_as : Asked → List ℕ → Asked
make_as a make = record { team = a.team; known = a.known; held = a.held; make = make; asks = a.asks }

abbrev pub asks_as : Asked → List (List ℕ) → Asked
asks_as a asks = record { team = a.team; known = a.known; held = a.held; make = a.make; asks = asks }

-- the settings that the line `known` names, and those of them that are true
unfoldable pub known_settings : List Known → List ℕ
known_settings [] = []
known_settings (k ∷ ks) = k.setting ∷ known_settings ks

unfoldable pub known_true : List Known → List ℕ
known_true [] = []
known_true (k ∷ ks) = cond k.value (k.setting ∷ known_true ks) (known_true ks)

-- the settings that are held
abbrev pub held_settings : HeldLine → List ℕ
held_settings left_out = []
held_settings (holding settings) = settings
