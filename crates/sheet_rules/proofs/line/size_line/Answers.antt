-- `size_line` meets its contract, way by way.
use Rattle.std.proofs.Common.{ℕ, ◌≡◌, ◌∙◌, ◌-◌, ◌<◌, sym, subst, arith, true}
use Rattle.sheet_rules.specs.Rules.{sized}
use Rattle.sheet_rules.specs.Desk.{OnDesk}
use Rattle.sheet_rules.specs.Forms.{is_size, digit_at}
use Rattle.sheet_rules.proofs.Turns.{faulty, taken}
use Rattle.sheet_rules.proofs.FormLaws.{size_bounds, digit_of}
use Rattle.sheet_rules.proofs.StepLaws.{size-malformed, size_large, size-next}
use Rattle.sheet_rules.proofs.line.size_line.Goals.{Else-not-is_size}
use Rattle.sheet_rules.proofs.line.size_line.Goals as goal

form : (c : Else-not-is_size) → is_size c.args.line.now ≡ true
form c = sym c.is_size.ensures ∙ c.if-not-is_size.false

pub returns-then-not-is_size : goal.returns-then-not-is_size
returns-then-not-is_size c = faulty (size-malformed c.args.most c.args.number c.args.line.now (sym c.is_size.ensures ∙ c.if-not-is_size.true))

pub overflow_sub-settings : goal.overflow_sub-settings
overflow_sub-settings c = omega (arith, c.peek-settings.ensures, (size_bounds c.args.line.now (form (goal.at.overflow_sub-settings c).Else-not-is_size)).0)

pub returns-then-most-settings : goal.returns-then-most-settings
returns-then-most-settings c =
    let line = c.args.line.now in
    faulty
    (size_large c.args.most c.args.number line (form (goal.at.returns-then-most-settings c).Else-not-is_size)
    (subst (λ (x : ℕ). c.args.most < x) (digit_of line 5 c.peek-settings.ensures) c.if-most-settings.true))

pub overflow_sub-peek : goal.overflow_sub-peek
overflow_sub-peek c = omega (arith, c.peek.ensures, (size_bounds c.args.line.now (form (goal.at.overflow_sub-peek c).Else-not-is_size)).2)

pub sized-requires : goal.sized-requires
sized-requires c =
    let z = size_bounds c.args.line.now (form (goal.at.sized-requires c).Else-not-is_size) in
    let n = c.peek-settings.ensures in
    (omega (arith, n, z.0), omega (arith, n, z.1), omega (arith, c.peek.ensures, z.2), omega (arith, c.peek.ensures, z.3))

pub returns : goal.returns
returns c =
    let line = c.args.line.now in
    let five = digit_of line 5 c.peek-settings.ensures in
    let seven = digit_of line 7 c.peek.ensures in
    taken (size-next c.args.most c.args.number line (form (goal.at.returns c).Else-not-is_size) (omega (arith, five, c.if-most-settings.false)))
    (subst (λ (x : ℕ). OnDesk (sized x (digit_at line 7)) c.sized.result) five
    (subst (λ (x : ℕ). OnDesk (sized (c.peek-settings.result - 48) x) c.sized.result) seven c.sized.ensures))
