-- `number` meets its contract: a number's decimal is that of its tenth, which is the measure's fall, and its last digit.
use Rattle.print_room.proofs.+number.Given as goal

abbrev pub decreases-number : goal.decreases-number
decreases-number l = l.n
