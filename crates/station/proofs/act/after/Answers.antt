-- `after` meets its contract: an act that a byte names is of one of the settings that a byte has a bit for.
use Rattle.std.proofs.Common.{arith, sym, ◌∙◌}
use Rattle.knowledge_acts.proofs.Acts.{byte_of_act}
use Rattle.station.proofs.act.after.Goals as goal

pub changed-requires : goal.changed-requires
changed-requires c =
    let named = (byte_of_act c.args.byte _ (sym c.of_byte.ensures ∙ c.in-Some-Set.is)).1 in
    let small = rw c.in-Some-Set.field-0-is at named in
    omega (arith, small)
