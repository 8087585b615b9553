-- `numbers` meets its contract: in each arm the refusal is that arm's case, and the helper gives that case's row of the table. In a line below, the call
-- counts the arms but that of 18, which has a helper of its own; `self` counts those with a place, and `enum_told` those without.
use mathlib.Core.Path.{◌≡◌, sym, ap, ◌∙◌}
use Rattle.refusal.specs.declared.Refusal.{Refusal}
use Rattle.refusal.specs.declared.Numbers.{Numbers}
use Rattle.refusal.specs.Refusals.{numbers}

shown : {r s : Refusal} {x : Numbers} → x ≡ numbers s → r ≡ s → x ≡ numbers r
shown told arm = told ∙ ap numbers (sym arm)
