-- The grammar of well-formed sheets: how each line is written, and what it may say. A sheet that is written so is never 22, whatever else is
-- wrong with it (proofs/Grammar).
use Rattle.std.specs.Prelude.{◌≡◌, cond, List, [], ◌∷◌, ◌++◌, ℕ, ◌+◌, ◌≤◌, ◌<◌, length}
use Rattle.ground.specs.Text.{byte, bytes}
use Rattle.book_block.specs.declared.rule.Right.{Right}
use Rattle.book_block.specs.declared.rule.Right.TheVariants.{Look, Set}
use Rattle.sheet_words.specs.Words.{newline, space}
use Rattle.sheet_rules.specs.Rules.{Size, Rule}
use Rattle.sheet_question.specs.Asked.{Known, HeldLine, left_out, holding, Asked}
use Rattle.sheet_reading.specs.Sheet.{Sheet}

-- "Lines [..] end in byte 10"
unfoldable pub ended : List ℕ → List ℕ
ended line = line ++ (newline ∷ [])

-- `size N M`
unfoldable pub size_text : ℕ → ℕ → List ℕ
size_text n m = bytes "size " ++ ((byte "0" + n) ∷ space ∷ (byte "0" + m) ∷ [])

-- `read P G F` and `write P G F`
unfoldable pub word : Right → List ℕ
word Look = bytes "read "
word Set = bytes "write "

unfoldable pub rule_line : Rule → List ℕ
rule_line r = word r.right ++ ((byte "a" + r.setting) ∷ space ∷ (byte "1" + r.post) ∷ space ∷ r.text)

unfoldable pub rule_lines : List Rule → List ℕ
rule_lines [] = []
rule_lines (r ∷ rs) = ended (rule_line r) ++ rule_lines rs

-- names without `~`: "Words are split by one space", and the name with index i is the sign `first` + i
unfoldable pub names_text : ℕ → List ℕ → List ℕ
names_text first [] = []
names_text first (i ∷ names) = space ∷ (first + i) ∷ names_text first names

-- `team G ..`
unfoldable pub team_line : List ℕ → List ℕ
team_line posts = bytes "team" ++ names_text (byte "1") posts

-- "`known` with settings, `~` before a false one, or alone"
unfoldable pub known_word : Known → List ℕ
known_word k = cond k.value ((byte "a" + k.setting) ∷ []) (byte "~" ∷ (byte "a" + k.setting) ∷ [])

unfoldable pub knowns_text : List Known → List ℕ
knowns_text [] = []
knowns_text (k ∷ ks) = space ∷ (known_word k ++ knowns_text ks)

unfoldable pub known_line : List Known → List ℕ
known_line ks = bytes "known" ++ knowns_text ks

-- "`held`, a line like `known` without `~`, directly after it, optional"
unfoldable pub held_line : List ℕ → List ℕ
held_line settings = bytes "held" ++ names_text (byte "a") settings

unfoldable pub held_text : HeldLine → List ℕ
held_text left_out = []
held_text (holding settings) = ended (held_line settings)

-- `make F` and `ask F`
unfoldable pub make_line : List ℕ → List ℕ
make_line F = bytes "make " ++ F

unfoldable pub ask_lines : List (List ℕ) → List ℕ
ask_lines [] = []
ask_lines (F ∷ Fs) = ended (bytes "ask " ++ F) ++ ask_lines Fs

-- the size and the rights
unfoldable pub rules_text : Size → List Rule → List ℕ
rules_text size rules = ended (size_text size.settings size.posts) ++ rule_lines rules

-- what is asked
unfoldable pub asked_text : Asked → List ℕ
asked_text a =
    ended (team_line a.team) ++ (ended (known_line a.known) ++ (held_text a.held ++ (ended (make_line a.make) ++ ask_lines a.asks)))

-- the whole sheet
unfoldable pub sheet_text : Sheet → List ℕ
sheet_text sheet = rules_text sheet.size sheet.rules ++ asked_text sheet.asked

-- "F is all that follows the space before it" in its line
abbrev pub InLine : List ℕ → Type 0
InLine [] = Unit
InLine (c ∷ F) = (c ≡ newline → ⊥) × InLine F

-- "P a setting letter, G a post digit", not "past the size"
abbrev pub RulesFit : ℕ → ℕ → List Rule → Type 0
RulesFit n m [] = Unit
RulesFit n m (r ∷ rs) = ((r.setting < n) × (r.post < m) × InLine r.text) × RulesFit n m rs

abbrev pub NamesFit : ℕ → List ℕ → Type 0
NamesFit m [] = Unit
NamesFit m (q ∷ qs) = (q < m) × NamesFit m qs

abbrev pub KnownFit : ℕ → List Known → Type 0
KnownFit n [] = Unit
KnownFit n (k ∷ ks) = (k.setting < n) × KnownFit n ks

abbrev pub HeldFit : ℕ → HeldLine → Type 0
HeldFit n left_out = Unit
HeldFit n (holding settings) = NamesFit n settings

abbrev pub AsksFit : List (List ℕ) → Type 0
AsksFit [] = Unit
AsksFit (F ∷ Fs) = InLine F × AsksFit Fs

-- what well-formed rules may say: "N outside 1 to 7, M outside 1 to 8 [..] are 22"
pub record WellRuled (size : Size) (rs : List Rule) : Type 0 where
  pub settings_least : 1 ≤ size.settings
  pub settings_most : size.settings ≤ 7
  pub posts_least : 1 ≤ size.posts
  pub posts_most : size.posts ≤ 8
  pub rules : RulesFit size.settings size.posts rs

-- and what may be asked of them: "(one or more)", "up to four"
pub record WellAsked (size : Size) (a : Asked) : Type 0 where
  pub someone : 1 ≤ length a.team
  pub team : NamesFit size.posts a.team
  pub known : KnownFit size.settings a.known
  pub held : HeldFit size.settings a.held
  pub make : InLine a.make
  pub asks : AsksFit a.asks
  pub asks_most : length a.asks ≤ 4

-- a well-formed sheet
pub record WellFormed (sheet : Sheet) : Type 0 where
  pub ruled : WellRuled sheet.size sheet.rules
  pub well_asked : WellAsked sheet.size sheet.asked
