-- `finder_ranks::spread::spread` meets its contract: a round carries the stage of h to that of h + 1, and both ways out end in the certificate.
use Rattle.finder_ranks.proofs.Stages.{Stage}
use Rattle.finder_ranks.proofs.spread.spread.Given as goal

abbrev pub invariant-loop-h : goal.invariant-loop-h
invariant-loop-h l = Stage l.n l.set l.look l.h l.initial.ranks l.ranks
