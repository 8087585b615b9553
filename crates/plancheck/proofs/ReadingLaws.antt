-- What a byte comes to, from what the code asked of the state of a knowledge number: the state's answers are those of the number.
use mathlib.Core.Path.{◌≡◌, sym, ap, ◌∙◌}
use mathlib.Core.Bool.{Bool, true, false, cond, ◌&&◌}
use mathlib.Core.List.{List}
use Prim.Native.Nat.{ℕ, ◌^◌, ◌≤◌, ◌<◌}
use native.Mathlib.Omega.{arith}
use lib.Dec.{leb, ltb, ltb→lt}
use Rattle.ground.specs.Digits.{digit, bit}
use Rattle.ground.proofs.Bools.{true→T, and_left}
use Rattle.refusal.specs.declared.Refusal.{Refusal}
use Rattle.refusal.specs.declared.Refusal.TheVariants.{NoAct, NotPermitted, ChangesNothing as ThirtyTwo, NotSettled}
use Rattle.refusal.specs.declared.Why.{Why}
use Rattle.refusal.specs.declared.Why.TheVariants.{NotKnown}
use Rattle.knowledge_acts.specs.Acts.{setting_of, post_of, act_of, offered}
use Rattle.knowledge_acts.specs.declared.act.Act.{Act}
use Rattle.std.proofs.Common.{Some, Result, Ok, Err}
use Rattle.knowledge.specs.Number.{digit_in, digits_of}
use Rattle.knowledge.specs.Goal.{Goal, goal_settled}
use Rattle.knowledge.proofs.Number.{digits_are}
use Rattle.knowledge_judging.proofs.GoalLaws.{within_seven, unguarded}
use Rattle.plan.specs.declared.Permit.{Permit}
use Rattle.plan.specs.declared.Permit.TheVariants.{Given, Denied, ChangesNothing}
use Rattle.plan.specs.Check.{outcomes, read_act, read_byte}
use Rattle.plan.proofs.Check.{read_named_lem}
use Rattle.question.specs.Permitted.{permitted}
use Rattle.question.specs.Question.{system_of}
use Rattle.question.specs.declared.Question.{Question}
use Rattle.plancheck.specs.Reading.{left_by, reading_of}
use Rattle.plancheck.specs.declared.reading.ByteReading.{ByteReading}
use Rattle.plancheck.specs.declared.reading.ByteReading.TheVariants.{Stops}

-- an act: what is offered, and what is permitted at the state of k
pub permits-at : (n : ℕ) (book : List ℕ) (held k : ℕ) (a : Act) {ds : List ℕ} {r : Permit} → n ≤ 7 → k < 7 ^ 7 → ds ≡ digits_of k
    → r ≡ cond (leb n 7) (permitted n book held (digit_in ds) a) (Denied NotKnown) → permitted n book held (digit 7 k) a ≡ r
permits-at n book held k a few small e f =
    ap (λ (d : ℕ → ℕ). permitted n book held d a) (sym (digits_are k small)) ∙ ap (λ (l : List ℕ). permitted n book held (digit_in l) a) (sym e)
    ∙ sym (within_seven n _ _ few) ∙ sym f

pub offered-setting : (n team : ℕ) (a : Act) → offered n team a ≡ true → setting_of a < n
unfolding offered
offered-setting n team a e = ltb→lt (setting_of a) n (and_left (ltb (setting_of a) n) (bit team (post_of a)) (true→T e))

module _ (at k : ℕ) (a : Act) where
  pub act_unknown : {o : Bool} (p : Permit) → o ≡ false → Err (NoAct at) ≡ reading_of at (read_act o p (outcomes k a))
  act_unknown p e = rw e

  pub act_forbidden : {o : Bool} {p : Permit} {why : Why} → o ≡ true → p ≡ Denied why → Err (NotPermitted at why) ≡ reading_of at (read_act o p (outcomes k a))
  act_forbidden e f = rw (e, f)

  pub act_idle : {o : Bool} {p : Permit} → o ≡ true → p ≡ ChangesNothing → Err (ThirtyTwo at) ≡ reading_of at (read_act o p (outcomes k a))
  act_idle e f = rw (e, f)

  pub act_done : {o : Bool} {p : Permit} {r : ByteReading} → o ≡ true → p ≡ Given → r ≡ left_by (outcomes k a) → Ok r ≡ reading_of at (read_act o p (outcomes k a))
  act_done e f g = rw (e, f) (ap Ok g)

-- a byte
module _ (n : ℕ) (book : List ℕ) (q : Question) (goal : Goal) (k at byte : ℕ) where
  pub byte-stops : {g : Bool} → n ≤ 7 → byte ≡ 0 → g ≡ leb n 7 && goal_settled n goal k → g ≡ true
      → Ok Stops ≡ reading_of at (read_byte (system_of n book q goal) k byte)
  unfolding system_of
  byte-stops few e f g = rw (e, sym (unguarded n _ few) ∙ sym f ∙ g)

  pub byte-unsettled : {g : Bool} → n ≤ 7 → byte ≡ 0 → g ≡ leb n 7 && goal_settled n goal k → g ≡ false
      → Err (NotSettled at) ≡ reading_of at (read_byte (system_of n book q goal) k byte)
  unfolding system_of
  byte-unsettled few e f g = rw (e, sym (unguarded n _ few) ∙ sym f ∙ g)

  pub byte_act : {a : Act} {r : Result ByteReading Refusal} → (byte ≡ 0 → ⊥) → Some a ≡ act_of byte
      → r ≡ reading_of at (read_act (offered n q.team a) (permitted n book q.held (digit 7 k) a) (outcomes k a))
      → r ≡ reading_of at (read_byte (system_of n book q goal) k byte)
  unfolding system_of
  byte_act ne e f = rw (read_named_lem (system_of n book q goal) k byte (omega arith), ← e) f
