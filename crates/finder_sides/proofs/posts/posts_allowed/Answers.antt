-- `finder_sides::posts::posts_allowed` meets its contract. The loop has filled the tables of the first settings.
use mathlib.Core.Path.{sym, subst}
use native.Mathlib.Omega.{arith}
use Rattle.std.proofs.Common.{rules}
use Rattle.finder_sides.specs.Tables.{acting_on, PostTables}
use Rattle.finder_sides.proofs.PostLaws.{no_rows, more_rows, all-rows, post-row}
use Rattle.finder_sides.proofs.posts.posts_allowed.Goals as goal

pub loop-setting-init : goal.loop-setting-init
loop-setting-init c = (c.up_to_seven-settings.ensures, no_rows)

pub loop-setting-preserved : goal.loop-setting-preserved
loop-setting-preserved c =
    let inv = c.loop-setting.invariant in (
      inv.0,
      more_rows c.loop-setting.tables c.fill.result (omega arith) inv.1
          (rw (sym c.acting_on-acting.ensures) (post-row (λ v h. let e = c.columns_of-columns.ensures v h in search rules) c.fill.ensures)),
    )

pub returns : goal.returns
returns c =
    let loop = c.loop-setting in
    let args = c.args in
    subst (λ n. PostTables n args.book.now (acting_on args.team args.held) args.right loop.tables) loop.invariant.0
    (all-rows loop.tables loop.invariant.1 (omega arith) c.loop-setting-test.false)
