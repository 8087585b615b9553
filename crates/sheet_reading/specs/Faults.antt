-- When a sheet is refused and where, told by the grammar alone: "First 24; then line by line 22, 23, the formula's number; 25 directly after line 1."
-- Place has 22. The other numbers of a line are told of a well-formed sheet that begins with the lines up to it.
use Rattle.std.specs.Prelude.{◌≡◌, ◌⊎◌, List, [], ◌∷◌, ◌++◌, map, ℕ, suc, ◌≤◌, ◌<◌, length}
use Rattle.ground.specs.Text.{bytes}
use Rattle.refusal.specs.declared.Refusal.{Refusal}
use Rattle.refusal.specs.declared.Refusal.TheVariants.{Malformed, Twice, SheetLength, SheetSettings}
use Rattle.refusal.specs.Order.{First}
use Rattle.formula.specs.Read.{formula_rows}
use Rattle.sheet_words.specs.Words.{split, newline}
use Rattle.sheet_rules.specs.Rules.{Size, Rule}
use Rattle.sheet_question.specs.Asked.{Known, HeldLine, left_out, holding, known_settings}
use Rattle.sheet_reading.specs.Sheet.{Sheet}
use Rattle.sheet_reading.specs.Grammar.{size_text, rule_line, team_line, known_line, held_line, make_line}
use Rattle.sheet_reading.specs.Place.{BeginsSheet, first_lines, MalformedAt}

-- ---- the lines of a sheet

-- a line, by what it says
pub data Line : Type 0 where
  size_line : Size → Line
  right_line : Rule → Line
  team_line_case : List ℕ → Line
  known_line_case : List Known → Line
  held_line_case : List ℕ → Line
  make_line_case : List ℕ → Line
  ask_line : List ℕ → Line

-- how it is written
unfoldable pub line_text : Line → List ℕ
line_text (size_line size) = size_text size.settings size.posts
line_text (right_line r) = rule_line r
line_text (team_line_case posts) = team_line posts
line_text (known_line_case ks) = known_line ks
line_text (held_line_case settings) = held_line settings
line_text (make_line_case F) = make_line F
line_text (ask_line F) = bytes "ask " ++ F

-- the line `held`, where it is there
unfoldable pub held_in : HeldLine → List Line
held_in left_out = []
held_in (holding settings) = held_line_case settings ∷ []

-- the lines of a sheet, in order; `sheet_text` is these, each with its byte 10 (proofs/Lines `sheet-lines`)
unfoldable pub lines_of : Sheet → List Line
lines_of w =
    size_line w.size
    ∷ map right_line w.rules
    ++ (team_line_case w.asked.team ∷ known_line_case w.asked.known ∷ held_in w.asked.held
    ++ make_line_case w.asked.make ∷ map ask_line w.asked.asks)

-- ---- what may be wrong with a well-formed line, after the lines `before`

-- the line states the right that r states
abbrev pub LineStates : Rule → Line → Type 0
LineStates r (size_line size) = ⊥
LineStates r (right_line q) = (q.right ≡ r.right) × (q.setting ≡ r.setting) × (q.post ≡ r.post)
LineStates r (team_line_case posts) = ⊥
LineStates r (known_line_case ks) = ⊥
LineStates r (held_line_case settings) = ⊥
LineStates r (make_line_case F) = ⊥
LineStates r (ask_line F) = ⊥

-- one of the lines does
abbrev pub StatedIn : Rule → List Line → Type 0
StatedIn r [] = ⊥
StatedIn r (line ∷ more) = LineStates r line ⊎ StatedIn r more

-- i is one of the names; and one of the names comes again
abbrev pub OneOf : ℕ → List ℕ → Type 0
OneOf i [] = ⊥
OneOf i (x ∷ xs) = (x ≡ i) ⊎ OneOf i xs

abbrev pub Repeats : List ℕ → Type 0
Repeats [] = ⊥
Repeats (x ∷ xs) = OneOf x xs ⊎ Repeats xs

-- "23 right, post or setting named twice"
abbrev pub NamesTwice : List Line → Line → Type 0
NamesTwice before (size_line size) = ⊥
NamesTwice before (right_line r) = StatedIn r before
NamesTwice before (team_line_case posts) = Repeats posts
NamesTwice before (known_line_case ks) = Repeats (known_settings ks)
NamesTwice before (held_line_case settings) = Repeats settings
NamesTwice before (make_line_case F) = ⊥
NamesTwice before (ask_line F) = ⊥

-- "the formula's number": what the reader of formulas refuses the line's formula with, over n settings
abbrev pub FormulaRefused : ℕ → Line → Refusal → Type 0
FormulaRefused n (size_line size) r = ⊥
FormulaRefused n (right_line q) r = First (formula_rows n q.text) r
FormulaRefused n (team_line_case posts) r = ⊥
FormulaRefused n (known_line_case ks) r = ⊥
FormulaRefused n (held_line_case settings) r = ⊥
FormulaRefused n (make_line_case F) r = First (formula_rows n F) r
FormulaRefused n (ask_line F) r = First (formula_rows n F) r

-- "25 n above 5"
abbrev pub SizeAbove : Line → Type 0
SizeAbove (size_line size) = 5 < size.settings
SizeAbove (right_line r) = ⊥
SizeAbove (team_line_case posts) = ⊥
SizeAbove (known_line_case ks) = ⊥
SizeAbove (held_line_case settings) = ⊥
SizeAbove (make_line_case F) = ⊥
SizeAbove (ask_line F) = ⊥

-- line number L is refused with r: "23, the formula's number", in this order; and 25
pub data Fault (n L : ℕ) (before : List Line) (line : Line) : Refusal → Type 0 where
  above : SizeAbove line → Fault n L before line SheetSettings
  again : NamesTwice before line → Fault n L before line (Twice L)
  in-formula : {r : Refusal} → (NamesTwice before line → ⊥) → FormulaRefused n line r → Fault n L before line r

-- line number L of the sheet w says `line`, after lines that say `before`, and P holds of these
pub record AtLine (w : Sheet) (L : ℕ) (P : List Line → Line → Type 0) : Type 0 where
  pub before : List Line
  pub line : Line
  pub behind : List Line
  pub lines : lines_of w ≡ before ++ line ∷ behind
  pub place : L ≡ suc (length before)
  pub holds : P before line

-- line number L of the sheet w is refused with r
abbrev pub LineFault : Sheet → ℕ → Refusal → Type 0
LineFault w L r = AtLine w L (λ before line. Fault w.size.settings L before line r)

-- ---- the sheet s is refused

-- line L of s is reached, and P holds there: the line ends in byte 10, the lines up to it begin a well-formed sheet, and no line before it is refused.
-- P is told the settings of the sheet's size, what the lines before say, and what the line says.
pub record Reaches (s : List ℕ) (L : ℕ) (P : ℕ → List Line → Line → Type 0) : Type 0 where
  pub line_ends : L < length (split newline s)
  pub begun : BeginsSheet (first_lines L s)
  pub none_before : (K : ℕ) (x : Refusal) → K < L → LineFault begun.sheet K x → ⊥
  pub here : AtLine begun.sheet L (P begun.sheet.size.settings)

-- line L of s is refused with r
abbrev pub FaultAt : List ℕ → ℕ → Refusal → Type 0
FaultAt s L r = Reaches s L (λ n before line. Fault n L before line r)

-- "First 24; then line by line", with the line that is printed as the place
pub data RefusedSheet (s : List ℕ) : Refusal → ℕ → Type 0 where
  too_long : 32768 < length s → RefusedSheet s SheetLength 0
  malformed : {L : ℕ} → length s ≤ 32768 → MalformedAt s L → ((K : ℕ) (r : Refusal) → K < L → FaultAt s K r → ⊥) → RefusedSheet s (Malformed L) L
  at_fault : {L : ℕ} {r : Refusal} → length s ≤ 32768 → FaultAt s L r → RefusedSheet s r L
