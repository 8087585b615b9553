-- `lines` meets its contract: what the plan's first byte names tells its form, and each part of it begins further on, so that fewer bytes
-- are left, which is the measure.
use mathlib.Core.Path.{sym, ap, ◌∙◌}
use native.Mathlib.Omega.{arith}
use Rattle.std.specs.Prelude.{Some}
use Rattle.knowledge_acts.proofs.Acts.{byte_of_act}
use Rattle.print_answer.proofs.Shown.{shown-here}
use Rattle.print_answer.proofs.Lined.{wrote_act, stop-ends, stop_lined, act_ends, set_next, set_lined, false_next, true_next, look_lined}
use Rattle.print_answer.proofs.listing.+lines.Goals as goal
use Rattle.print_answer.proofs.listing.+lines.Goals.{In-Set, In-Look}
use Rattle.std.proofs.Common.{◌≡◌, ℕ, get_or}
use Rattle.knowledge_acts.specs.Acts.{act_of}
use Rattle.knowledge_acts.specs.declared.act.Act.TheVariants.{Set, Look}

-- the act that the byte names
set_named : {t : ℕ} (c : In-Set t) → act_of (get_or c.args.plan.now c.args.at 0) ≡ Some (Set c.in-Set.setting c.in-Set.post c.in-Set.value)
set_named c = sym c.of_byte.ensures ∙ c.in-Some.is ∙ ap Some c.in-Set.is

look_named : {t : ℕ} (c : In-Look t) → act_of (get_or c.args.plan.now c.args.at 0) ≡ Some (Look c.in-Look.setting c.in-Look.post)
look_named c = sym c.of_byte.ensures ∙ c.in-Some.is ∙ ap Some c.in-Look.is

pub bounds-plan-at : goal.bounds-plan-at
bounds-plan-at t c = shown-here c.requires.shown

pub line-to-requires : goal.line-to-requires
line-to-requires t c = stop-ends (sym c.of_byte.ensures ∙ c.in_default.is) c.requires

pub overflow_add-result : goal.overflow_add-result
overflow_add-result t c = omega (arith, shown-here c.requires.shown)

pub act_line-to-requires : goal.act_line-to-requires
act_line-to-requires t c =
    let of-byte = c.of_byte in
    let b = byte_of_act _ _ (sym of-byte.ensures ∙ c.in-Some.is) in (b.1, b.2, act_ends _ (sym of-byte.ensures ∙ c.in-Some.is) c.requires)

pub overflow_add-at : goal.overflow_add-at
overflow_add-at t c = omega (arith, shown-here c.requires.shown)

pub overflow_add-depth : goal.overflow_add-depth
overflow_add-depth t c =
    omega (
      arith,
      (set_next (set_named (goal.at.overflow_add-depth t c).In-Set)
          (wrote_act c.args.depth c.in-Set.is c.act_line-to.ensures)
          c.requires).deep,
    )

pub lines-requires : goal.lines-requires
lines-requires t c =
    let pre = c.requires in (
      omega (arith, c.decreases, shown-here pre.shown),
      set_next
          (set_named (goal.at.lines-requires t c).In-Set)
          (wrote_act c.args.depth c.in-Set.is c.act_line-to.ensures) pre,
    )

pub overflow_add-at-in-Look : goal.overflow_add-at-in-Look
overflow_add-at-in-Look t c = omega (arith, shown-here c.requires.shown)

pub overflow_add-depth-in-Look : goal.overflow_add-depth-in-Look
overflow_add-depth-in-Look t c =
    omega (
      arith,
      (false_next (look_named (goal.at.overflow_add-depth-in-Look t c).In-Look)
          (wrote_act c.args.depth c.in-Look.is c.act_line-to.ensures)
          c.requires).deep,
    )

pub lines-no-requires : goal.lines-no-requires
lines-no-requires t c =
    let pre = c.requires in (
      omega (arith, c.decreases, shown-here pre.shown),
      false_next
          (look_named (goal.at.lines-no-requires t c).In-Look)
          (wrote_act c.args.depth c.in-Look.is c.act_line-to.ensures) pre,
    )

pub overflow_add-depth-in-Look-2 : goal.overflow_add-depth-in-Look-2
overflow_add-depth-in-Look-2 t c =
    omega (
      arith,
      (false_next (look_named (goal.at.overflow_add-depth-in-Look-2 t c).In-Look)
          (wrote_act c.args.depth c.in-Look.is c.act_line-to.ensures) c.requires).deep,
    )

pub lines-requires-in-Look : goal.lines-requires-in-Look
lines-requires-in-Look t c =
    let pre = c.requires in
    let x = true_next (look_named (goal.at.lines-requires-in-Look t c).In-Look)
    (wrote_act c.args.depth c.in-Look.is c.act_line-to.ensures)
    c.lines-no.ensures pre in
    (omega (arith, c.decreases, x.1, shown-here pre.shown), x.0)

pub returns-in_default : goal.returns-in_default
returns-in_default t c = stop_lined (sym c.of_byte.ensures ∙ c.in_default.is) c.line-to.ensures

pub returns-in-Set : goal.returns-in-Set
returns-in-Set t c =
    set_lined (set_named (goal.at.returns-in-Set t c).In-Set)
    (wrote_act c.args.depth c.in-Set.is c.act_line-to.ensures)
    c.lines.ensures

pub returns-in-Look : goal.returns-in-Look
returns-in-Look t c =
    look_lined (look_named (goal.at.returns-in-Look t c).In-Look)
    (wrote_act c.args.depth c.in-Look.is c.act_line-to.ensures)
    c.lines-no.ensures c.lines-in-Look.ensures
