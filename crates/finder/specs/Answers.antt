-- What a valid question is answered: reach, cannot, or 14.
use Rattle.std.specs.Prelude.{◌≡◌, Result, Ok, Err, List, ◌++◌, ℕ, ◌≤◌, ◌<◌, length, drop}
use Rattle.ground.specs.Search.{Least}
use Rattle.refusal.specs.declared.Refusal.{Refusal}
use Rattle.refusal.specs.declared.Refusal.TheVariants.{PlanRoom}
use Rattle.plan.specs.Plans.{System, Plan}
use Rattle.plan.specs.Ranks.{Reach as ReachIn, Cannot as CannotFrom, Written}
use Rattle.plan.specs.Bytes.{encode}
use Rattle.finder.specs.declared.answer.Answer.{Answer}
use Rattle.finder.specs.declared.answer.Answer.TheVariants.{Reach, Cannot}

-- the answer at the start of a system, with the plan room before and after. The height named is the least, and the plan written is such a
-- plan (demand 2); "for "cannot" and 14, the plan room keep[s] what [it] held. A success writes only the plan's bytes there"
abbrev pub AnswersFrom : System → ℕ → List ℕ → Result Answer Refusal → List ℕ → Type 0
AnswersFrom S start old (Ok (Reach h size)) new =
    Least (ReachIn S start) h × ((p : Plan) × Written S start p × (size ≡ length (encode p)) × (size ≤ length old) × (new ≡ encode p ++ drop size old))
AnswersFrom S start old (Ok Cannot) new = CannotFrom S start × (new ≡ old)
-- 14: "plan longer than the lent plan room"
AnswersFrom S start old (Err r) new = (r ≡ PlanRoom) × ((p : Plan) × Written S start p × (length old < length (encode p))) × (new ≡ old)
