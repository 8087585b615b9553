-- The meaning of a sheet in one pass over its lines, rules and question alike: each line is judged by what is due, and rights may come until the team
-- has. It is the meaning that is put together from the two (TwoParts `sheet-meaning`), and the laws of the grammar go by it.
use mathlib.Core.Path.{◌≡◌, refl}
use mathlib.Core.Bool.{Bool, true, false, not, ◌&&◌}
use mathlib.Core.List.{List, [], ◌∷◌, ◌++◌}
use Prim.Native.Nat.{ℕ, suc}
use lib.Dec.{leb, ltb}
use lib.ListN.{length, drop}
use Rattle.ground.specs.Text.{bytes}
use Rattle.refusal.specs.declared.Refusal.TheVariants.{Malformed, Twice, SheetSettings}
use Rattle.book_block.specs.declared.rule.Right.TheVariants.{Look, Set}
use Rattle.sheet_words.specs.Words.{begins}
use Rattle.sheet_words.specs.Steps.{Step, fault, next, unless, unless_refused, names_step}
use Rattle.sheet_rules.specs.Rules.{Rule, is_stated}
use Rattle.sheet_rules.specs.Forms.{is_size, digit_at, is_rule, rule_of}
use Rattle.sheet_question.specs.Asked.{Asked, holding, team_as, known_as, held_as, make_as, asks_as, known_settings}
use Rattle.sheet_question.specs.Forms.{is_team, team_of, is_known, known_of, is_held, held_of}
use Rattle.sheet_question.specs.LineSteps.{held_or}
use Rattle.sheet_question.specs.declared.desk.Due.{Due}
use Rattle.sheet_question.specs.declared.desk.Due.TheVariants.{Team, Known, Held, Make, Asks}
use Rattle.sheet_reading.specs.Sheet.{Sheet, sized}
use Rattle.sheet_reading.specs.Reading.{Meaning, refused, stated}

-- ---- a line of a sheet

-- it is at fault; or this is due next, and this is stated
abbrev pub SheetStep : Type 0
SheetStep = Step (Due × Sheet)

-- the sheet with other rights, and with something else asked
abbrev pub rules_as : Sheet → List Rule → Sheet
rules_as v rules = record { size = v.size; rules = rules; asked = v.asked }

abbrev pub asked_as : Sheet → Asked → Sheet
asked_as v asked = record { size = v.size; rules = v.rules; asked = asked }

unfoldable pub with_rule : Sheet → Rule → Sheet
with_rule v r = rules_as v (v.rules ++ (r ∷ []))

unfoldable pub with_team : Sheet → List ℕ → Sheet
with_team v line = asked_as v (team_as v.asked (team_of line))

unfoldable pub with_known : Sheet → List ℕ → Sheet
with_known v line = asked_as v (known_as v.asked (known_of line))

unfoldable pub with_held : Sheet → List ℕ → Sheet
with_held v line = asked_as v (held_as v.asked (holding (held_of line)))

unfoldable pub with_make : Sheet → List ℕ → Sheet
with_make v F = asked_as v (make_as v.asked F)

unfoldable pub with_ask : Sheet → List ℕ → Sheet
with_ask v F = asked_as v (asks_as v.asked (v.asked.asks ++ (F ∷ [])))

unfoldable pub size_step : List ℕ → SheetStep
size_step line =
    unless (is_size line) (Malformed 1) (unless (leb (digit_at line 5) 5) SheetSettings (next (Team, sized (digit_at line 5) (digit_at line 7))))

unfoldable pub rule_step : ℕ → Sheet → Rule → SheetStep
rule_step L v r =
    unless (not (is_stated v.rules r.right r.setting r.post)) (Twice L) (unless_refused v.size.settings r.text (next (Team, with_rule v r)))

unfoldable pub team_step : ℕ → Sheet → List ℕ → SheetStep
team_step L v line = names_step L (is_team v.size.posts line) (team_of line) (next (Known, with_team v line))

unfoldable pub known_step : ℕ → Sheet → List ℕ → SheetStep
known_step L v line = names_step L (is_known v.size.settings line) (known_settings (known_of line)) (next (Held, with_known v line))

unfoldable pub held_step : ℕ → Sheet → List ℕ → SheetStep
held_step L v line = names_step L (is_held v.size.settings line) (held_of line) (next (Make, with_held v line))

unfoldable pub make_step : ℕ → Sheet → List ℕ → SheetStep
make_step L v line =
    unless (begins (bytes "make ") line) (Malformed L) (unless_refused v.size.settings (drop 5 line) (next (Asks, with_make v (drop 5 line))))

unfoldable pub held_or_make : ℕ → Sheet → List ℕ → SheetStep
held_or_make L v line = held_or (begins (bytes "held") line) (held_step L v line) (make_step L v line)

unfoldable pub ask_step : ℕ → Sheet → List ℕ → SheetStep
ask_step L v line =
    unless
    (begins (bytes "ask ") line && ltb (length v.asked.asks) 4)
    (Malformed L)
    (unless_refused v.size.settings (drop 4 line) (next (Asks, with_ask v (drop 4 line))))

-- where the team is due: one more right, or the team
abbrev pub right_or_team : Bool → SheetStep → Bool → SheetStep → SheetStep → SheetStep
right_or_team true look set? set team = look
right_or_team false look true set team = set
right_or_team false look false set team = team

unfoldable pub rights_step : ℕ → Sheet → List ℕ → SheetStep
rights_step L v line =
    right_or_team
    (is_rule (bytes "read ") v.size.settings v.size.posts line)
    (rule_step L v (rule_of (bytes "read ") Look line))
    (is_rule (bytes "write ") v.size.settings v.size.posts line)
    (rule_step L v (rule_of (bytes "write ") Set line))
    (team_step L v line)

-- the line after the first, by what is due
abbrev pub step : ℕ → Due → Sheet → List ℕ → SheetStep
step L Team v line = rights_step L v line
step L Known v line = known_step L v line
step L Held v line = held_or_make L v line
step L Make v line = make_step L v line
step L Asks v line = ask_step L v line

-- ---- all lines

-- what follows the last byte 10, at line number L
abbrev pub ending : Due → Sheet → List ℕ → ℕ → Meaning
ending Team v rest L = refused (Malformed L) L
ending Known v rest L = refused (Malformed L) L
ending Held v rest L = refused (Malformed L) L
ending Make v rest L = refused (Malformed L) L
ending Asks v [] L = stated v
ending Asks v (c ∷ rest) L = refused (Malformed L) L

-- the lines from number L on
unfoldable pub lines : ℕ → Due → Sheet → List (List ℕ) → Meaning
lines L due v [] = refused (Malformed L) L
lines L due v (rest ∷ []) = ending due v rest L
lines L due v (line ∷ another ∷ more) = elim (step L due v line) [ fault r ↦ refused r L | next (d, u) ↦ lines (suc L) d u (another ∷ more) ]

-- the size, and the lines after it
unfoldable pub first_line : List (List ℕ) → Meaning
first_line [] = refused (Malformed 1) 1
first_line (rest ∷ []) = refused (Malformed 1) 1
first_line (line ∷ another ∷ more) = elim (size_step line) [ fault r ↦ refused r 1 | next (d, u) ↦ lines 2 d u (another ∷ more) ]

-- what comes of a sheet after line L, from what that line does
abbrev pub after : ℕ → List (List ℕ) → SheetStep → Meaning
after L pieces (fault r) = refused r L
after L pieces (next (d, v)) = lines (suc L) d v pieces

pub lines_after : (L : ℕ) (due : Due) (v : Sheet) (line another : List ℕ) (more : List (List ℕ)) → lines L due v (line ∷ another ∷ more) ≡ after L (another ∷ more) (step L due v line)
unfolding lines
lines_after L due v line another more = by_step (step L due v line)
  where
    by_step : (st : SheetStep) → (elim st [ fault r ↦ refused r L | next (d, u) ↦ lines (suc L) d u (another ∷ more) ]) ≡ after L (another ∷ more) st
    by_step (fault r) = refl
    by_step (next (d, u)) = refl

pub first-after : (line another : List ℕ) (more : List (List ℕ)) → first_line (line ∷ another ∷ more) ≡ after 1 (another ∷ more) (size_step line)
unfolding first_line
first-after line another more = by_step (size_step line)
  where
    by_step : (st : SheetStep) → (elim st [ fault r ↦ refused r 1 | next (d, u) ↦ lines 2 d u (another ∷ more) ]) ≡ after 1 (another ∷ more) st
    by_step (fault r) = refl
    by_step (next (d, u)) = refl
