-- Every public function's contract determines its result: any two results that it allows for the same arguments are equal. Each theorem
-- speaks of the function's own contract, as the check reads it, `Post`; no function here is lent anything. First an act's methods.
use mathlib.Core.Path.{◌≡◌, sym, ◌∙◌}
use Rattle.knowledge_acts.proofs.act.Act.of_byte.Reads as of-byte
use Rattle.knowledge_acts.proofs.act.Act.byte.Reads as byte
use Rattle.knowledge_acts.proofs.act.Act.offered.Reads as offered
use Rattle.knowledge_acts.proofs.digit.now_side.Reads as now_side
use Rattle.knowledge_acts.proofs.digit.start_side.Reads as start_side
use Rattle.knowledge_acts.proofs.digit.after_set.Reads as after_set_case
use Rattle.knowledge_acts.proofs.digit.after_look.Reads as after_look
use Rattle.knowledge_acts.proofs.digit.first_digit.Reads as first-digit

pub of_byte_unique : (κs : _) (a : _) (x y : _) (s : _) → of-byte.Post κs a x s → of-byte.Post κs a y s → x ≡ y
of_byte_unique κs a x y s p q = p ∙ sym q

pub byte_unique : (κs : _) (a : _) (x y : _) (s : _) → byte.Post κs a x s → byte.Post κs a y s → x ≡ y
byte_unique κs a x y s p q = p ∙ sym q

pub offered_unique : (κs : _) (a : _) (x y : _) (s : _) → offered.Post κs a x s → offered.Post κs a y s → x ≡ y
offered_unique κs a x y s p q = p ∙ sym q

-- ---- one digit

pub now_side_unique : (κs : _) (a : _) (x y : _) (s : _) → now_side.Post κs a x s → now_side.Post κs a y s → x ≡ y
now_side_unique κs a x y s p q = p ∙ sym q

pub start_side_unique : (κs : _) (a : _) (x y : _) (s : _) → start_side.Post κs a x s → start_side.Post κs a y s → x ≡ y
start_side_unique κs a x y s p q = p ∙ sym q

pub after-set_unique : (κs : _) (a : _) (x y : _) (s : _) → after_set_case.Post κs a x s → after_set_case.Post κs a y s → x ≡ y
after-set_unique κs a x y s p q = p ∙ sym q

pub after_look_unique : (κs : _) (a : _) (x y : _) (s : _) → after_look.Post κs a x s → after_look.Post κs a y s → x ≡ y
after_look_unique κs a x y s p q = p ∙ sym q

pub first-digit_unique : (κs : _) (a : _) (x y : _) (s : _) → first-digit.Post κs a x s → first-digit.Post κs a y s → x ≡ y
first-digit_unique κs a x y s p q = p ∙ sym q
