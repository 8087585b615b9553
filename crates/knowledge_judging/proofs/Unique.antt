-- Every public function's contract determines its result: any two results that it allows for the same arguments are equal. Each
-- theorem speaks of the function's own contract, as the check reads it: `Post` at the lifetimes, the arguments, the result and the
-- arguments at exit. No function here writes to what it is lent, so the result is all there is to determine.
use mathlib.Core.Path.{◌≡◌, sym, ◌∙◌}
use Rattle.knowledge_judging.proofs.judging.judge.Reads as judge
use Rattle.knowledge_judging.proofs.goal.is_settled.Reads as is-settled

pub judge_unique : (κs : _) (a : _) (x y : _) (s : _) → judge.Post κs a x s → judge.Post κs a y s → x ≡ y
judge_unique κs a x y s p q = p ∙ sym q

pub is-settled_unique : (κs : _) (a : _) (x y : _) (s : _) → is-settled.Post κs a x s → is-settled.Post κs a y s → x ≡ y
is-settled_unique κs a x y s p q = p ∙ sym q
