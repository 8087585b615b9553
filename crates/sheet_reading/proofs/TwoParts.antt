-- The meaning that is put together from rules and question is the one of a single pass over the lines: line by line, a line of rules does in both what it
-- does alone, and so does a line of the question.
use mathlib.Core.Path.{◌≡◌, refl, sym, ap, ap₂, ◌∙◌}
use mathlib.Core.Logic.{inl, inr}
use mathlib.Core.Bool.{Bool, true, false, not, ◌&&◌, ◌||◌, cond}
use mathlib.Core.List.{List, [], ◌∷◌}
use Prim.Native.Nat.{ℕ, suc}
use native.Mathlib.Omega.{arith}
use lib.Dec.{leb, ltb}
use lib.ListN.{length, drop}
use Rattle.ground.specs.Text.{bytes}
use Rattle.ground.proofs.Bools.{decide, T→true, T→false}
use Rattle.refusal.specs.declared.Refusal.{Refusal}
use Rattle.refusal.specs.declared.Refusal.TheVariants.{Malformed, Twice, SheetLength, SheetSettings}
use Rattle.formula.specs.Computed.{formula_answer}
use Rattle.std.proofs.Common.{Result, Ok, Err}
use Rattle.book_block.specs.declared.rule.Right.TheVariants.{Look, Set}
use Rattle.sheet_words.specs.Words.{split, newline, begins, twice}
use Rattle.sheet_words.specs.Steps.{Step, fault, next, unless, unless_answered, unless_refused}
use Rattle.sheet_rules.specs.Rules.{Rule, Rules, is_stated}
use Rattle.sheet_rules.specs.Rules.{sized as rulesSized, with_rule as rulesWith}
use Rattle.sheet_rules.specs.Forms.{is_size, digit_at, is_rule, rule_of, is_of_rules}
use Rattle.sheet_rules.specs.Steps.{size_step as rulesSize, rule_step as rulesRule, line_step as rulesLine}
use Rattle.sheet_rules.specs.Reading.{rules_from, after_size, size_from, rules_read}
use Rattle.sheet_rules.proofs.ReadLaws.{rules-line, rules_end}
use Rattle.sheet_question.specs.Asked.{Asked, nothing_asked, known_settings}
use Rattle.sheet_question.specs.Forms.{is_team, team_of, is_known, known_of, is_held, held_of}
use Rattle.sheet_question.specs.LineSteps.{AskedStep, held_or, due_step}
use Rattle.sheet_question.specs.LineSteps.{with_team as askedTeam, with_known as askedKnown, with_held as askedHeld, with_make as askedMake, with_ask as askedAsk}
use Rattle.sheet_question.specs.LineSteps.{team_step as askedTeamStep, known_step as askedKnownStep, held_step as askedHeldStep}
use Rattle.sheet_question.specs.LineSteps.{make_step as askedMakeStep, ask_step as askedAskStep, held_or_make as askedHeldOrMake}
use Rattle.sheet_question.specs.Question.{asked_from}
use Rattle.sheet_question.specs.Question.{ending as askedEnding}
use Rattle.sheet_question.specs.declared.desk.Due.{Due}
use Rattle.sheet_question.specs.declared.desk.Due.TheVariants.{Team, Known, Held, Make, Asks}
use Rattle.sheet_question.proofs.ReadLaws.{asked-after}
use Rattle.sheet_question.proofs.ReadLaws.{after as askedNext}
use Rattle.sheet_question.proofs.StepLaws.{line_by}
use Rattle.sheet_reading.specs.Sheet.{Sheet, sheet_of, sized}
use Rattle.sheet_reading.specs.Reading.{refused, with_question, after_rules, sheet_meaning}
use Rattle.sheet_reading.proofs.OnePass.{SheetStep, with_rule, with_team, with_known, with_held, with_make, with_ask, size_step, rule_step, team_step, known_step}
use Rattle.sheet_reading.proofs.OnePass.{held_step, make_step, held_or_make, ask_step, right_or_team, rights_step, step}
use Rattle.sheet_reading.proofs.OnePass.{ending, lines, first_line, after, lines_after, first-after}
use Rattle.sheet_reading.proofs.Carried.{carried, carried_unless, carried_refused, carried_names, carried_held}

-- ---- the question

module _ (rules : Rules) where
  abbrev asks : Due × Asked → Due × Sheet
  asks (due, a) = (due, sheet_of rules a)

  abbrev n : ℕ
  n = rules.size.settings

  abbrev m : ℕ
  m = rules.size.posts

  team-same : (L : ℕ) (a : Asked) (line : List ℕ) → team_step L (sheet_of rules a) line ≡ carried asks (askedTeamStep m L a line)
  unfolding team_step askedTeamStep with_team askedTeam
  team-same L a line = sym (carried_names asks L (is_team m line) (team_of line) (next (Known, askedTeam a line)))

  known_same : (L : ℕ) (a : Asked) (line : List ℕ) → known_step L (sheet_of rules a) line ≡ carried asks (askedKnownStep n L a line)
  unfolding known_step askedKnownStep with_known askedKnown
  known_same L a line = sym (carried_names asks L (is_known n line) (known_settings (known_of line)) (next (Held, askedKnown a line)))

  make_same : (L : ℕ) (a : Asked) (line : List ℕ) → make_step L (sheet_of rules a) line ≡ carried asks (askedMakeStep n L a line)
  unfolding make_step askedMakeStep with_make askedMake
  make_same L a line =
      let later : AskedStep = next (Asks, askedMake a (drop 5 line)) in
      sym (carried_unless asks (begins (bytes "make ") line) (Malformed L) (unless_refused n (drop 5 line) later)
      ∙ ap (unless (begins (bytes "make ") line) (Malformed L)) (carried_refused asks n (drop 5 line) later))

  held_same : (L : ℕ) (a : Asked) (line : List ℕ) → held_or_make L (sheet_of rules a) line ≡ carried asks (askedHeldOrMake n L a line)
  unfolding held_or_make askedHeldOrMake held_step askedHeldStep with_held askedHeld
  held_same L a line =
      ap₂ (held_or (begins (bytes "held") line)) (sym (carried_names asks L (is_held n line) (held_of line) (next (Make, askedHeld a line)))) (make_same L a line)
      ∙ sym (carried_held asks (begins (bytes "held") line) _ (askedMakeStep n L a line))

  ask_same : (L : ℕ) (a : Asked) (line : List ℕ) → ask_step L (sheet_of rules a) line ≡ carried asks (askedAskStep n L a line)
  unfolding ask_step askedAskStep with_ask askedAsk
  ask_same L a line =
      let form : Bool = begins (bytes "ask ") line && ltb (length a.asks) 4 in
      let later : AskedStep = next (Asks, askedAsk a (drop 4 line)) in
      sym (carried_unless asks form (Malformed L) (unless_refused n (drop 4 line) later) ∙ ap (unless form (Malformed L)) (carried_refused asks n (drop 4 line) later))

  -- once the team has come it is due no more
  abbrev Later : Due → Type 0
  Later Team = ⊥
  Later Known = Unit
  Later Held = Unit
  Later Make = Unit
  Later Asks = Unit

  abbrev LaterStep : AskedStep → Type 0
  LaterStep (fault r) = Unit
  LaterStep (next (due, a)) = Later due

  later-unless : (b : Bool) (r : Refusal) (st : AskedStep) → LaterStep st → LaterStep (unless b r st)
  later-unless true r st h = h
  later-unless false r st h = tt

  later-refused : (F : List ℕ) (st : AskedStep) → LaterStep st → LaterStep (unless_refused n F st)
  unfolding unless_refused
  later-refused F st h = by_answer (formula_answer n F)
    where
      by_answer : (a : Result (Unit {0}) Refusal) → LaterStep (unless_answered a st)
      by_answer (Ok x) = h
      by_answer (Err r) = tt

  later-held : (b : Bool) (x y : AskedStep) → LaterStep x → LaterStep y → LaterStep (held_or b x y)
  later-held true x y h k = h
  later-held false x y h k = k

  later-make : (L : ℕ) (a : Asked) (line : List ℕ) → LaterStep (askedMakeStep n L a line)
  unfolding askedMakeStep
  later-make L a line = later-unless (begins (bytes "make ") line) (Malformed L) _ (later-refused (drop 5 line) (next (Asks, askedMake a (drop 5 line))) tt)

  later_due : (L : ℕ) (due : Due) (a : Asked) (line : List ℕ) → LaterStep (due_step n m L due a line)
  unfolding askedTeamStep askedKnownStep askedHeldStep askedHeldOrMake askedAskStep
  later_due L Team a line = later-unless (is_team m line) (Malformed L) _ (later-unless (not (twice (λ i. false) (team_of line))) (Twice L) (next (Known, askedTeam a line)) tt)
  later_due L Known a line =
      later-unless (is_known n line) (Malformed L) _ (later-unless (not (twice (λ i. false) (known_settings (known_of line)))) (Twice L) (next (Held, askedKnown a line)) tt)
  later_due L Held a line =
      later-held (begins (bytes "held") line) _ (askedMakeStep n L a line)
      (later-unless (is_held n line) (Malformed L) _ (later-unless (not (twice (λ i. false) (held_of line))) (Twice L) (next (Make, askedHeld a line)) tt))
      (later-make L a line)
  later_due L Make a line = later-make L a line
  later_due L Asks a line =
      later-unless (begins (bytes "ask ") line && ltb (length a.asks) 4) (Malformed L) _ (later-refused (drop 4 line) (next (Asks, askedAsk a (drop 4 line))) tt)

  -- what is left of a question, alone and in a sheet with these rules
  abbrev Same : ℕ → Due → Asked → List (List ℕ) → Type 0
  Same L due a pieces = lines L due (sheet_of rules a) pieces ≡ with_question rules (asked_from false n m L due a pieces)

  ending-same : (L : ℕ) (due : Due) (a : Asked) (rest : List ℕ) → ending due (sheet_of rules a) rest L ≡ with_question rules (askedEnding due a rest L)
  ending-same L Team a rest = refl
  ending-same L Known a rest = refl
  ending-same L Held a rest = refl
  ending-same L Make a rest = refl
  ending-same L Asks a [] = refl
  ending-same L Asks a (c ∷ rest) = refl

  after_same : (L : ℕ) (pieces : List (List ℕ)) (st : AskedStep) → LaterStep st → ((d : Due) (b : Asked) → Later d → Same (suc L) d b pieces)
      → after L pieces (carried asks st) ≡ with_question rules (askedNext false n m L pieces st)
  after_same L pieces (fault r) h more = refl
  after_same L pieces (next (d, b)) h more = more d b h

  line_same : (L : ℕ) (due : Due) (a : Asked) (line another : List ℕ) (more : List (List ℕ)) → step L due (sheet_of rules a) line ≡ carried asks (due_step n m L due a line)
      → ((d : Due) (b : Asked) → Later d → Same (suc L) d b (another ∷ more)) → Same L due a (line ∷ another ∷ more)
  line_same L due a line another more e f =
      lines_after L due (sheet_of rules a) line another more
      ∙ ap (after L (another ∷ more)) e
      ∙ after_same L (another ∷ more) (due_step n m L due a line) (later_due L due a line) f
      ∙ ap (λ (st : AskedStep). with_question rules (askedNext false n m L (another ∷ more) st)) (sym (line_by n m L due a line false false refl))
      ∙ ap (with_question rules) (sym (asked-after false n m L due a line another more))

  step_same : (L : ℕ) (due : Due) (a : Asked) (line : List ℕ) → Later due → step L due (sheet_of rules a) line ≡ carried asks (due_step n m L due a line)
  step_same L Team a line h = absurd h
  step_same L Known a line h = known_same L a line
  step_same L Held a line h = held_same L a line
  step_same L Make a line h = make_same L a line
  step_same L Asks a line h = ask_same L a line

  later_same : (pieces : List (List ℕ)) (L : ℕ) (due : Due) (a : Asked) → Later due → Same L due a pieces
  unfolding lines asked_from
  later_same [] L due a h = refl
  later_same (rest ∷ []) L due a h = ending-same L due a rest
  later_same (line ∷ another ∷ more) L due a h = line_same L due a line another more (step_same L due a line h) (λ d b k. later_same (another ∷ more) (suc L) d b k)

  -- a line that is none of the rules' is the team's
  no_rule : (look set? : Bool) (x y z : SheetStep) → (look || set?) ≡ false → right_or_team look x set? y z ≡ z
  no_rule true set? x y z e = let q : ◌≡◌ {A = ℕ} 0 1 = cc in absurd (omega arith)
  no_rule false true x y z e = let q : ◌≡◌ {A = ℕ} 0 1 = cc in absurd (omega arith)
  no_rule false false x y z e = refl

  question_same : (L : ℕ) (line another : List ℕ) (more : List (List ℕ)) → is_of_rules false n m line ≡ false → Same L Team nothing_asked (line ∷ another ∷ more)
  unfolding is_of_rules rights_step
  question_same L line another more e =
      line_same L Team nothing_asked line another more
      (no_rule (is_rule (bytes "read ") n m line) (is_rule (bytes "write ") n m line) _ _ _ e ∙ team-same L nothing_asked line)
      (λ d b k. later_same (another ∷ more) (suc L) d b k)

-- ---- the rules

abbrev ruled : Rules → Due × Sheet
ruled rules = (Team, sheet_of rules nothing_asked)

rule-same : (L : ℕ) (rules : Rules) (r : Rule) → rule_step L (sheet_of rules nothing_asked) r ≡ carried ruled (rulesRule L rules r)
unfolding rule_step rulesRule with_rule rulesWith
rule-same L rules r =
    let once? : Bool = not (is_stated rules.rules r.right r.setting r.post) in
    let later : Step Rules = next (rulesWith rules r) in
    sym (carried_unless ruled once? (Twice L) (unless_refused rules.size.settings r.text later)
    ∙ ap (unless once? (Twice L)) (carried_refused ruled rules.size.settings r.text later))

by_form : (look set? : Bool) (x y z : SheetStep) (a b : Step Rules) → (look || set?) ≡ true → x ≡ carried ruled a → y ≡ carried ruled b
    → right_or_team look x set? y z ≡ carried ruled (cond look a b)
by_form true set? x y z a b e f g = f
by_form false true x y z a b e f g = g
by_form false false x y z a b e f g = let q : ◌≡◌ {A = ℕ} 0 1 = cc in absurd (omega arith)

right-same : (L : ℕ) (rules : Rules) (line : List ℕ) → is_of_rules false rules.size.settings rules.size.posts line ≡ true
    → rights_step L (sheet_of rules nothing_asked) line ≡ carried ruled (rulesLine false L rules line)
unfolding is_of_rules rights_step rulesLine
right-same L rules line e =
    by_form (is_rule (bytes "read ") rules.size.settings rules.size.posts line) (is_rule (bytes "write ") rules.size.settings rules.size.posts line) _ _ _ _ _ e
    (rule-same L rules (rule_of (bytes "read ") Look line)) (rule-same L rules (rule_of (bytes "write ") Set line))

size_same : (line : List ℕ) → size_step line ≡ carried ruled (rulesSize 5 1 line)
unfolding size_step rulesSize sized
size_same line =
    let later : Step Rules = next (rulesSized (digit_at line 5) (digit_at line 7)) in
    sym (carried_unless ruled (is_size line) (Malformed 1) (unless (leb (digit_at line 5) 5) SheetSettings later)
    ∙ ap (unless (is_size line) (Malformed 1)) (carried_unless ruled (leb (digit_at line 5) 5) SheetSettings later))

after-rules : (L : ℕ) (pieces : List (List ℕ)) (st : Step Rules)
    → ((rules : Rules) → lines (suc L) Team (sheet_of rules nothing_asked) pieces ≡ after_rules (rules_from false (suc L) rules pieces))
    → after L pieces (carried ruled st) ≡ after_rules (after_size false L st pieces)
after-rules L pieces (fault r) f = refl
after-rules L pieces (next rules) f = f rules

rules-same : (pieces : List (List ℕ)) (L : ℕ) (rules : Rules) → lines L Team (sheet_of rules nothing_asked) pieces ≡ after_rules (rules_from false L rules pieces)
unfolding lines rules_from asked_from
rules-same [] L rules = refl
rules-same (rest ∷ []) L rules = refl
rules-same (line ∷ another ∷ more) L rules = elim (decide (is_of_rules false rules.size.settings rules.size.posts line)) [
  | inl t ↦ (let yes = T→true (is_of_rules false rules.size.settings rules.size.posts line) t in
      lines_after L Team (sheet_of rules nothing_asked) line another more
      ∙ ap (after L (another ∷ more)) (right-same L rules line yes)
      ∙ after-rules L (another ∷ more) (rulesLine false L rules line) (λ v. rules-same (another ∷ more) (suc L) v)
      ∙ ap after_rules (sym (rules-line false L rules line another more yes)))
  | inr t ↦ (let other = T→false (is_of_rules false rules.size.settings rules.size.posts line) t in
      question_same rules L line another more other ∙ ap after_rules (sym (rules_end false L rules line another more other)))
]

-- ---- the whole

pub one_pass : (pieces : List (List ℕ)) → after_rules (rules_read false 5 pieces) ≡ first_line pieces
unfolding rules_read size_from first_line
one_pass [] = refl
one_pass (rest ∷ []) = refl
one_pass (line ∷ another ∷ more) =
    sym (first-after line another more
    ∙ ap (after 1 (another ∷ more)) (size_same line)
    ∙ after-rules 1 (another ∷ more) (rulesSize 5 1 line) (λ v. rules-same (another ∷ more) 2 v))

pub sheet-meaning : (s : List ℕ) → sheet_meaning s ≡ cond (ltb 32768 (length s)) (refused SheetLength 0) (first_line (split newline s))
unfolding sheet_meaning
sheet-meaning s = ap (cond (ltb 32768 (length s)) (refused SheetLength 0)) (one_pass (split newline s))
