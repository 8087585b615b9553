-- "Where the team knows the present value, setting that same value is no longer an act." Which sets these are (idle ones, for short), any system without
-- them, and a plan with them left out. d i is the digit of setting i (knowledge_acts/specs/Seven).
use Rattle.std.specs.Prelude.{Bool, true, false, not, ℕ, T, eqb}
use Rattle.ground.specs.Digits.{digit}
use Rattle.knowledge_acts.specs.Seven.{told, now_told}
use Rattle.knowledge_acts.specs.Acts.{set_to, look_at}
use Rattle.knowledge_acts.specs.declared.act.Act.{Act}
use Rattle.knowledge_acts.specs.declared.act.Act.TheVariants.{Set, Look}
use Rattle.plan.specs.Plans.{System, Plan, stop, set_then, look_then}
use Rattle.plan.specs.declared.Permit.{Permit}
use Rattle.plan.specs.declared.Permit.TheVariants.{Given, Denied, ChangesNothing}

-- "the team knows the present value" of the setting, and it is the value that is set; no look is such an act
unfoldable pub changes_nothing : (ℕ → ℕ) → Act → Bool
changes_nothing d (Set i q b) = eqb (now_told (d i)) (told b)
changes_nothing d (Look i q) = false

-- what is said of an act, by whether it changes nothing: "32 .., after 18 at the same byte", so that what is denied stays denied
abbrev pub unless_nothing : Bool → Permit → Permit
unless_nothing true Given = ChangesNothing
unless_nothing true (Denied why) = Denied why
unless_nothing true ChangesNothing = ChangesNothing
unless_nothing false said = said

-- the same system without the sets that change nothing
abbrev pub without : System → System
without S = record {
  offers = S.offers;
  permits = λ k a. unless_nothing (changes_nothing (digit 7 k) a) (S.permits k a);
  goal = S.goal;
}

-- no set of the plan from k changes nothing where it stands
abbrev pub NoneIdle : ℕ → Plan → Type 0
NoneIdle k stop = Unit
NoneIdle k (set_then i q b p) = T (not (changes_nothing (digit 7 k) (Set i q b))) × NoneIdle (set_to k i b) p
NoneIdle k (look_then i q p r) = NoneIdle (look_at k i false) p × NoneIdle (look_at k i true) r

-- a set and what follows, or what follows alone where the set changes nothing
abbrev pub set_unless : Bool → ℕ → ℕ → Bool → Plan → Plan
set_unless true i q b p = p
set_unless false i q b p = set_then i q b p

-- the plan from k with the sets left out that change nothing where they stand
unfoldable pub leaving_out : ℕ → Plan → Plan
leaving_out k stop = stop
leaving_out k (set_then i q b p) = set_unless (changes_nothing (digit 7 k) (Set i q b)) i q b (leaving_out (set_to k i b) p)
leaving_out k (look_then i q p r) = look_then i q (leaving_out (look_at k i false) p) (leaving_out (look_at k i true) r)
