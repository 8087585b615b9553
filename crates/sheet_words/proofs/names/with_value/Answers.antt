-- `with_value` meets its contract: `false` adds nothing.
use mathlib.Core.Path.{sym, ap, ◌∙◌}
use mathlib.Core.Bool.{Bool, ◌&&◌, ◌||◌}
use lib.Dec.{eqb}
use Rattle.ground.specs.Digits.{bit}
use Rattle.ground.proofs.Bools.{or_false}
use Rattle.sheet_words.proofs.names.with_value.Goals as goal

pub returns-then-value : goal.returns-then-value
returns-then-value c =
    let args = c.args in
    λ j. c.with_bit.ensures j ∙ ap (λ (x : Bool). bit args.byte j || (x && eqb args.i j)) (sym c.if-value.true)

pub returns-else-value : goal.returns-else-value
returns-else-value c =
    λ j. sym (ap (λ (x : Bool). bit c.args.byte j || (x && eqb c.args.i j)) c.if-value.false
    ∙ or_false (bit c.args.byte j))
