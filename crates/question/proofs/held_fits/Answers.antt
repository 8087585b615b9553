-- `held_fits` meets its contract: a shift leaves nothing of the mask exactly where all held settings are below n.
use native.Mathlib.Omega.{arith}
use Rattle.question.proofs.QuestionLaws.{held_tells}
use Rattle.question.proofs.held_fits.Goals as goal

pub returns : goal.returns
returns c = held_tells c.args.n c.args.held (omega (arith, c.ranges.held))
