-- `finder_ranks::spread::spread` meets its contract: a round carries the stage of h to that of h + 1, and both ways out end in the certificate.
use mathlib.Core.Path.{ap, ◌∙◌}
use Prim.Native.Nat.{◌^◌}
use native.Mathlib.Nat.{min-eq_left}
use native.Mathlib.Omega.{arith}
use Rattle.finder_ranks.specs.Round.{Swept}
use Rattle.finder_ranks.proofs.Sweeps.{swept_all}
use Rattle.finder_ranks.proofs.Stages.{next, still, last}
use Rattle.finder_ranks.proofs.spread.spread.Goals as goal
use Rattle.finder_ranks.proofs.spread.spread.Goals.{After-round}

-- the round was of all states
swept : (c : After-round) → Swept c.args.n c.args.set.now c.args.look.now c.loop-h.h 0 (7 ^ c.args.n) c.loop-h.ranks c.round.new.ranks c.round.result
swept c = swept_all (c.numbers-size.ensures ∙ ap (λ k. 7 ^ k) (min-eq_left c.requires.few)) c.round.ensures

pub returns-then-round-eq0 : goal.returns-then-round-eq0
returns-then-round-eq0 c =
    still (omega arith) (omega arith) c.loop-h.invariant (swept (goal.at.returns-then-round-eq0 c).After-round) c.if-round-eq0.true

pub loop-h-preserved : goal.loop-h-preserved
loop-h-preserved c = next (omega arith) (omega arith) c.loop-h.invariant (swept (goal.at.loop-h-preserved c).After-round)

pub returns : goal.returns
returns c = last (omega arith) c.loop-h.invariant
