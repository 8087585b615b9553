-- The contract of `replay` determines its result: any two results that it allows for the same arguments are equal. The theorem speaks of the function's own
-- contract, as the check reads it, `Post`; nothing that is lent is written to.
use mathlib.Core.Path.{◌≡◌}
use Rattle.station.proofs.OneAnswer.{replays-one}
use Rattle.station.proofs.shift.replay.Reads as replay

pub replay_unique : (κs : _) (a : _) (x y : _) (s : _) → replay.Post κs a x s → replay.Post κs a y s → x ≡ y
replay_unique κs a x y s p q = replays-one _ _ _ x y p q
