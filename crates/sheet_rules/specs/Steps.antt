-- What each line of rules does: it is at fault, or the rules go on. "22, 23, the formula's number", in this order. L is the number of the line.
use Rattle.std.specs.Prelude.{Bool, not, ◌&&◌, cond, List, ℕ, leb}
use Rattle.ground.specs.Text.{bytes}
use Rattle.refusal.specs.declared.Refusal.TheVariants.{Malformed, Twice, SheetSettings}
use Rattle.book_block.specs.declared.rule.Right.TheVariants.{Look, Set}
use Rattle.sheet_words.specs.Words.{passed_over}
use Rattle.sheet_words.specs.Steps.{Step, next, unless, unless_refused}
use Rattle.sheet_rules.specs.Rules.{Rule, Rules, sized, with_rule, is_stated}
use Rattle.sheet_rules.specs.Forms.{is_size, digit_at, is_rule, rule_of}

-- `size N M`, of at most `most` settings: "25 n above 5 in the program", where `most` is 5
unfoldable pub size_step : ℕ → ℕ → List ℕ → Step Rules
size_step most L line =
    unless (is_size line) (Malformed L) (unless (leb (digit_at line 5) most) SheetSettings (next (sized (digit_at line 5) (digit_at line 7))))

-- a right: "23 right [..] named twice"
unfoldable pub rule_step : ℕ → Rules → Rule → Step Rules
rule_step L rules r =
    unless
    (not (is_stated rules.rules r.right r.setting r.post))
    (Twice L)
    (unless_refused rules.size.settings r.text (next (with_rule rules r)))

-- a line of the rules after the size (`is_of_rules`): nothing is stated by one that is passed over
unfoldable pub line_step : Bool → ℕ → Rules → List ℕ → Step Rules
line_step passes L rules line =
    cond
    (passes && passed_over line)
    (next rules)
    (cond
    (is_rule (bytes "read ") rules.size.settings rules.size.posts line)
    (rule_step L rules (rule_of (bytes "read ") Look line))
    (rule_step L rules (rule_of (bytes "write ") Set line)))
