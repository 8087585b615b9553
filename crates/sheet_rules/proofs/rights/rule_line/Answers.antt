-- `rule_line` meets its contract, way by way.
use Rattle.std.proofs.Common.{ℕ, ◌-◌, ◌<◌, ap, arith}
use Rattle.sheet_rules.proofs.FormLaws.{RuleBounds, rule_bounds}
use Rattle.sheet_rules.proofs.Turns.{faulty}
use Rattle.sheet_rules.proofs.RuleTurns.{slot_fits, line-twice, line_read}
use Rattle.sheet_rules.proofs.rights.rule_line.Goals.{Start, After-slot_of-slot}
use Rattle.sheet_rules.proofs.rights.rule_line.Goals as goal

bounds : (c : Start) → RuleBounds c.args.word.now c.args.desk.settings c.args.desk.posts c.args.line.now
bounds c = rule_bounds c.args.word.now c.args.desk.settings c.args.desk.posts c.args.line.now c.requires.2

fits : (c : After-slot_of-slot) → RuleBounds c.args.word.now c.args.desk.settings c.args.desk.posts c.args.line.now → c.slot_of-slot.result < 112
fits c b =
    let a = c.args in
    let h = c.requires.0 in
    slot_fits h.0 a.desk h.1 a.right a.word.now a.line.now b (c.peek-setting.result - 97) (c.peek-post.result - 49)
    (ap (λ (x : ℕ). x - 97) c.peek-setting.ensures) (ap (λ (x : ℕ). x - 49) c.peek-post.ensures) c.slot_of-slot.result c.slot_of-slot.ensures

pub overflow_sub-setting : goal.overflow_sub-setting
overflow_sub-setting c = omega (arith, c.peek-setting.ensures, (bounds (goal.at.overflow_sub-setting c).Start).setting-least)

pub overflow_sub-post : goal.overflow_sub-post
overflow_sub-post c = omega (arith, c.peek-post.ensures, (bounds (goal.at.overflow_sub-post c).Start).post-least)

pub bounds-desk-slot : goal.bounds-desk-slot
bounds-desk-slot c = let at = goal.at.bounds-desk-slot c in fits at.After-slot_of-slot (bounds at.Start)

pub returns-then-desk-slot-ne0 : goal.returns-then-desk-slot-ne0
returns-then-desk-slot-ne0 c =
    let a = c.args in
    λ rules h. faulty
    (line-twice rules a.desk h a.right a.word.now a.line.now (bounds (goal.at.returns-then-desk-slot-ne0 c).Start) (c.peek-setting.result - 97) (c.peek-post.result - 49)
    (ap (λ (x : ℕ). x - 97) c.peek-setting.ensures) (ap (λ (x : ℕ). x - 49) c.peek-post.ensures) c.slot_of-slot.result c.slot_of-slot.ensures
    a.number c.if-desk-slot-ne0.true)

pub slice_bounds-formula_line-count : goal.slice_bounds-formula_line-count
slice_bounds-formula_line-count c = (bounds (goal.at.slice_bounds-formula_line-count c).Start).size

pub slice_bounds-formula_line-start : goal.slice_bounds-formula_line-start
slice_bounds-formula_line-start c = (bounds (goal.at.slice_bounds-formula_line-start c).Start).size

pub formula_line-requires : goal.formula_line-requires
formula_line-requires c =
    let at = goal.at.formula_line-requires c in
    let h = c.requires.0.1 in
    (fits at.After-slot_of-slot (bounds at.Start), h.rights_size, h.stated_size)

pub returns : goal.returns
returns c =
    let a = c.args in
    λ rules h. line_read rules a.desk h a.right a.word.now a.line.now (bounds (goal.at.returns c).Start) (c.peek-setting.result - 97) (c.peek-post.result - 49)
    (ap (λ (x : ℕ). x - 97) c.peek-setting.ensures) (ap (λ (x : ℕ). x - 49) c.peek-post.ensures) c.slot_of-slot.result c.slot_of-slot.ensures
    a.number c.if-desk-slot-ne0.false c.formula_line.result c.formula_line.ensures
