-- The definitions at work on errors that paper 01 shuts out, each computed. Settings a and b are bits 0 and 1; a table's first byte
-- says it all at n = 1 and n = 2.
use mathlib.Core.Path.{◌≡◌, refl}
use mathlib.Core.Bool.{true, false}
use mathlib.Core.List.{[], ◌∷◌}
use Rattle.ground.specs.Digits.{digit, put, bit}
use Rattle.ground.specs.Search.{all}
use Rattle.ground.specs.Table.{truth}
use Rattle.knowledge_acts.specs.Seven.{start_told, now_told, after_set, after_look}
use Rattle.knowledge_acts.specs.Acts.{set_to, look_at}
use Rattle.knowledge.specs.Fits.{agrees, fits, always}
use Rattle.knowledge.specs.Judgement.{judgement, known, learn_settled}

-- "judging a rule with unknowns part by part, so that `b|~b` is open (P11)": with nothing known `b|~b` is known, and `b` is not
pub b_or_not_b : known 2 (digit 7 0) (15 ∷ []) ≡ true
unfolding known judgement always fits agrees all truth bit digit now_told
b_or_not_b = refl

pub b_alone : known 2 (digit 7 0) (12 ∷ []) ≡ false
unfolding known judgement always fits agrees all truth bit digit now_told
b_alone = refl

-- "taking a rule that is true in fact for one that is known": `b` is known once b was set true
pub b_set : known 2 (digit 7 (set_to 0 1 true)) (12 ∷ []) ≡ true
unfolding known judgement always fits agrees all truth bit digit put now_told set_to after_set
b_set = refl

-- "setting first and learning afterwards (P10)": after a set with nothing known, whether a was true at the start stays open; after
-- a look, and a set after it, it is settled
pub set_first : learn_settled 1 (digit 7 (set_to 0 0 false)) (2 ∷ []) ≡ false
unfolding learn_settled judgement always fits agrees all truth bit digit put start_told now_told set_to after_set
set_first = refl

pub look_first : learn_settled 1 (digit 7 (set_to (look_at 0 0 true) 0 false)) (2 ∷ []) ≡ true
unfolding learn_settled judgement always fits agrees all truth bit digit put start_told set_to look_at after_set after_look
look_first = refl

-- P12: with a known to be false, `a&b` has one same value at all fitting start valuations
pub a_false : learn_settled 2 (digit 7 3) (8 ∷ []) ≡ true
unfolding learn_settled judgement always fits agrees all truth bit digit start_told
a_false = refl
