-- `ask` hands out no byte that is not there: every answer fits its room.
use mathlib.Core.Path.{sym}
use Prim.Native.Nat.{◌≤◌}
use lib.Seq.{length-take-le}
use Rattle.sheet_ask.proofs.Theorems.{ask_most}
use borrow.Author.Rules.{rules}
use Rattle.program_ask.proofs.ask.Goals as goal

pub slice_bounds-out-end : goal.slice_bounds-out-end
slice_bounds-out-end c =
    let most : c.ask-printed.result ≤ 456970 = ask_most _ _ _ _ _ _ _ c.ask-printed.ensures in
    search rules

pub slice_bounds-deliver-end : goal.slice_bounds-deliver-end
slice_bounds-deliver-end c =
    let most : c.ask-printed.result ≤ 456970 = ask_most _ _ _ _ _ _ _ c.ask-printed.ensures in
    sym (length-take-le _ _ (search rules))
