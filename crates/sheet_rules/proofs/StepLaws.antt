-- What each line of rules does, from its tests: one equation for each way through a step.
use mathlib.Core.Path.{◌≡◌, refl, ap, ap₂, ◌∙◌}
use mathlib.Core.Bool.{Bool, true, false, not, ◌&&◌, cond}
use mathlib.Core.List.{List}
use Prim.Native.Nat.{ℕ, ◌≤◌, ◌<◌}
use lib.Dec.{leb}
use borrow.Author.Tests.{le-leb, lt-leb}
use Rattle.ground.specs.Text.{bytes}
use Rattle.refusal.specs.declared.Refusal.{Refusal}
use Rattle.refusal.specs.declared.Refusal.TheVariants.{Malformed, Twice, SheetSettings}
use Rattle.formula.specs.Read.{ReadsFormula, Accepts}
use Rattle.formula.specs.Computed.{without_table}
use Rattle.std.proofs.Common.{Result, Ok, Err}
use Rattle.formula.proofs.Computed.{read_computed}
use Rattle.book_block.specs.declared.rule.Right.TheVariants.{Look, Set}
use Rattle.sheet_words.specs.Words.{passed_over}
use Rattle.sheet_words.specs.Steps.{Step, fault, next, unless, unless_answered, unless_refused}
use Rattle.sheet_rules.specs.Rules.{Rule, Rules, sized, with_rule, is_stated}
use Rattle.sheet_rules.specs.Forms.{is_size, digit_at, is_rule, rule_of}
use Rattle.sheet_rules.specs.Steps.{size_step, rule_step, line_step}

-- ---- a formula

module _ (n : ℕ) (F : List ℕ) (later : Step Rules) where
  answered : (a : Result (List ℕ) Refusal) → ReadsFormula n F a → unless_refused n F later ≡ unless_answered (without_table a) later
  unfolding unless_refused
  answered a r = ap (λ (x : Result (Unit {0}) Refusal). unless_answered x later) (read_computed n F a r)

  pub refused-step : {why : Refusal} → ReadsFormula n F (Err why) → unless_refused n F later ≡ fault why
  refused-step {why} r = answered (Err why) r

  pub accepted-step : {t : List ℕ} → Accepts n F t → unless_refused n F later ≡ later
  accepted-step {t} r = answered (Ok t) r

-- ---- the size

module _ (most L : ℕ) (line : List ℕ) where
  abbrev size-on : Step Rules
  size-on = next (sized (digit_at line 5) (digit_at line 7))

  size_by : (b : Bool) → is_size line ≡ b → size_step most L line ≡ unless b (Malformed L) (unless (leb (digit_at line 5) most) SheetSettings size-on)
  unfolding size_step
  size_by b e = ap (λ (b : Bool). unless b (Malformed L) (unless (leb (digit_at line 5) most) SheetSettings size-on)) e

  pub size-malformed : is_size line ≡ false → size_step most L line ≡ fault (Malformed L)
  size-malformed e = size_by false e

  pub size_large : is_size line ≡ true → most < digit_at line 5 → size_step most L line ≡ fault SheetSettings
  size_large e h = size_by true e ∙ ap (λ (b : Bool). unless b SheetSettings size-on) (lt-leb (digit_at line 5) most h)

  pub size-next : is_size line ≡ true → digit_at line 5 ≤ most → size_step most L line ≡ next (sized (digit_at line 5) (digit_at line 7))
  size-next e h = size_by true e ∙ ap (λ (b : Bool). unless b SheetSettings size-on) (le-leb (digit_at line 5) most h)

-- ---- a right

module _ (L : ℕ) (rules : Rules) (r : Rule) where
  abbrev read-on : Step Rules
  read-on = unless_refused rules.size.settings r.text (next (with_rule rules r))

  rule-unless : rule_step L rules r ≡ unless (not (is_stated rules.rules r.right r.setting r.post)) (Twice L) read-on
  unfolding rule_step
  rule-unless = refl

  pub rule-twice : is_stated rules.rules r.right r.setting r.post ≡ true → rule_step L rules r ≡ fault (Twice L)
  rule-twice e = rule-unless ∙ ap (λ (b : Bool). unless (not b) (Twice L) read-on) e

  pub rule_once : is_stated rules.rules r.right r.setting r.post ≡ false → rule_step L rules r ≡ read-on
  rule_once e = rule-unless ∙ ap (λ (b : Bool). unless (not b) (Twice L) read-on) e

-- ---- a line after the size

module _ (passes : Bool) (L : ℕ) (rules : Rules) (line : List ℕ) where
  pub line_by : (a b : Bool) → (passes && passed_over line) ≡ a → is_rule (bytes "read ") rules.size.settings rules.size.posts line ≡ b
      → line_step passes L rules line ≡ cond a (next rules) (cond b (rule_step L rules (rule_of (bytes "read ") Look line)) (rule_step L rules (rule_of (bytes "write ") Set line)))
  unfolding line_step
  line_by a b p q =
      ap₂ (λ (a b : Bool). cond a (next rules) (cond b (rule_step L rules (rule_of (bytes "read ") Look line)) (rule_step L rules (rule_of (bytes "write ") Set line)))) p q
