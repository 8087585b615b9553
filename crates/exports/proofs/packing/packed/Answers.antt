-- `packed` meets its contract: its three numbers are the refusal's, and the number is a byte.
use mathlib.Core.Path.{sym, ap, subst, ◌∙◌}
use Prim.Native.Nat.{ℕ, ◌+◌, ◌*◌, ◌%◌, ◌^◌, ◌<◌}
use Rattle.refusal.specs.declared.Numbers.{Numbers}
use Rattle.refusal.specs.Refusals.{and_one}
use Rattle.refusal.proofs.NumberLaws.{number_small, second-small}
use Rattle.exports.specs.Packed.{packed}
use Rattle.exports.proofs.packing.packed.Goals as goal

pub joined-requires : goal.joined-requires
joined-requires c = subst (λ (x : Numbers). x.number < 256) (sym c.numbers-told.ensures) (number_small c.args.why)

pub above-requires : goal.above-requires
above-requires c = subst (λ (x : Numbers). and_one x.second < 256) (sym c.numbers-told.ensures) (second-small c.args.why)

pub returns : goal.returns
unfolding packed
returns c =
    c.joined.ensures
    ∙ ap (λ (k : ℕ). k * 2 ^ 40 + c.numbers-told.result.number * 2 ^ 32 + c.numbers-told.result.place % 2 ^ 32) c.above.ensures
    ∙ ap (λ (x : Numbers). and_one x.second * 2 ^ 40 + x.number * 2 ^ 32 + x.place % 2 ^ 32) c.numbers-told.ensures
