-- Every public function's contract determines its result: any two results that it allows for the same arguments are equal. Each
-- theorem speaks of the function's own contract, as the check reads it: `Post` at the lifetimes, the arguments, the result and the
-- arguments at exit. No function here writes to what it is lent, so the result is all there is to determine.
use mathlib.Core.Path.{◌≡◌, sym, ◌∙◌}
use Rattle.knowledge.specs.declared.state.Knowledge.{Knowledge}
use Rattle.knowledge.proofs.judgement.Judgement.holds.Reads as holds
use Rattle.knowledge.proofs.judgement.Judgement.settles.Reads as settles
use Rattle.knowledge.proofs.state.Knowledge.from_number.Reads as from-number
use Rattle.knowledge.proofs.state.Knowledge.at_start.Reads as at_start
use Rattle.knowledge.proofs.state.Knowledge.number.Reads as number
use Rattle.knowledge.proofs.state.Knowledge.digit.Reads as digit
use Rattle.knowledge.proofs.state.Knowledge.after_set.Reads as after_set_case
use Rattle.knowledge.proofs.state.Knowledge.after_look.Reads as after_look
use Rattle.knowledge.proofs.acts.set_to.Reads as set-to
use Rattle.knowledge.proofs.acts.look_at.Reads as look-at

-- two states with the same digits are the same state
same-state : {x y : Knowledge} → x.digits ≡ y.digits → x ≡ y
same-state p = λ i. record { digits = p i }

pub from_number_unique : (κs : _) (a : _) (x y : _) (s : _) → from-number.Post κs a x s → from-number.Post κs a y s → x ≡ y
from_number_unique κs a x y s p q = same-state (p ∙ sym q)

pub at_start_unique : (κs : _) (a : _) (x y : _) (s : _) → at_start.Post κs a x s → at_start.Post κs a y s → x ≡ y
at_start_unique κs a x y s p q = same-state (p ∙ sym q)

pub number_unique : (κs : _) (a : _) (x y : _) (s : _) → number.Post κs a x s → number.Post κs a y s → x ≡ y
number_unique κs a x y s p q = p ∙ sym q

pub digit_unique : (κs : _) (a : _) (x y : _) (s : _) → digit.Post κs a x s → digit.Post κs a y s → x ≡ y
digit_unique κs a x y s p q = p ∙ sym q

pub after-set_unique : (κs : _) (a : _) (x y : _) (s : _) → after_set_case.Post κs a x s → after_set_case.Post κs a y s → x ≡ y
after-set_unique κs a x y s p q = same-state (p ∙ sym q)

pub after_look_unique : (κs : _) (a : _) (x y : _) (s : _) → after_look.Post κs a x s → after_look.Post κs a y s → x ≡ y
after_look_unique κs a x y s p q = same-state (p ∙ sym q)

pub set_to_unique : (κs : _) (a : _) (x y : _) (s : _) → set-to.Post κs a x s → set-to.Post κs a y s → x ≡ y
set_to_unique κs a x y s p q = p.0 ∙ sym q.0

pub look_at_unique : (κs : _) (a : _) (x y : _) (s : _) → look-at.Post κs a x s → look-at.Post κs a y s → x ≡ y
look_at_unique κs a x y s p q = p.0 ∙ sym q.0

pub holds_unique : (κs : _) (a : _) (x y : _) (s : _) → holds.Post κs a x s → holds.Post κs a y s → x ≡ y
holds_unique κs a x y s p q = p ∙ sym q

pub settles_unique : (κs : _) (a : _) (x y : _) (s : _) → settles.Post κs a x s → settles.Post κs a y s → x ≡ y
settles_unique κs a x y s p q = p ∙ sym q
