-- `print_shift` meets its contract: text is read, and bytes that are not too long are run as they are.
use mathlib.Core.Path.{refl, sym, ◌∙◌}
use Rattle.station_print.proofs.PrintLaws.{shift_text, shift_long, shift_bytes}
use Rattle.station_print.proofs.print_shift.Goals as goal

pub returns-then-is_text : goal.returns-then-is_text
returns-then-is_text c = shift_text _ _ _ c.args.shift.now _ _ _ (sym c.is_text.ensures ∙ c.if-is_text.true) c.print_text.ensures

pub returns-then-shift-gt-SHIFT_MOST : goal.returns-then-shift-gt-SHIFT_MOST
returns-then-shift-gt-SHIFT_MOST c = shift_long _ _ _ c.args.shift.now _ _ _ (sym c.is_text.ensures ∙ c.if-is_text.false) c.if-shift-gt-SHIFT_MOST.true (refl, refl)

pub returns : goal.returns
returns c = shift_bytes _ _ _ c.args.shift.now _ _ _ (sym c.is_text.ensures ∙ c.if-is_text.false) c.if-shift-gt-SHIFT_MOST.false c.print_bytes.ensures
