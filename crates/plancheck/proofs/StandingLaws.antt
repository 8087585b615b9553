-- Where the reading stands is a list of pending states, so that a turn of the loop is a step of plan/specs/Check. A look leaves room: it makes one
-- more of the n settings known.
use mathlib.Core.Path.{◌≡◌, refl, sym, ap, ◌∙◌, subst}
use mathlib.Core.Bool.{Bool, true, false}
use mathlib.Core.List.{List, [], ◌∷◌}
use Prim.Native.Nat.{ℕ, zero, suc, ◌+◌, ◌^◌, ◌≤◌, ◌<◌}
use native.Mathlib.Numerals.{add-one}
use native.Mathlib.Omega.{arith}
use lib.Dec.{T}
use Rattle.std.proofs.Common.{Option, Some, Result, Ok, Err}
use lib.ListN.{length, get_or, set, drop, length-set}
use lib.Seq.{get_or-set_same, get_or-set_other, drop-cons}
use Rattle.refusal.specs.declared.Refusal.{Refusal}
use Rattle.knowledge_acts.specs.Acts.{set_to, look_at}
use Rattle.knowledge_acts.specs.declared.act.Act.TheVariants.{Set, Look}
use Rattle.knowledge_acts.proofs.Outcomes.{set_below, look_below}
use Rattle.plan.specs.Plans.{System, may, Lawful}
use Rattle.plan.specs.Check.{read_byte, judge, check}
use Rattle.plan.specs.Check as C
use Rattle.plan.proofs.Check.{judge-on, judge-fails}
use Rattle.plan.proofs.Pending.{pending-first, pending-most, pending-stop, pending-set, pending_look}
use Rattle.plancheck.specs.Reading.{reading_of}
use Rattle.plancheck.proofs.ByteLaws.{Step, stops, sets, looks, faults, step}
use Rattle.plancheck.specs.Inner.{answer_of, down, first_standing, stopped_standing, after_byte, HasRoom}
use Rattle.plancheck.specs.Inner.{Held, HeldAt, Ready, answer_from, Turned}
use Rattle.plancheck.specs.declared.reading.ByteReading.{ByteReading}
use Rattle.plancheck.specs.declared.standing.Standing.{Standing}

-- ---- the numbers that wait

pub down-length : (w : List ℕ) (c : ℕ) → length (down w c) ≡ c
down-length w zero = refl
down-length w (suc c) = ap suc (down-length w c)

-- a store at c is not seen below it
down-below : (w : List ℕ) (c x j : ℕ) → j ≤ c → down (set w c x) j ≡ down w j
down-below w c x zero h = refl
down-below w c x (suc j) h =
    rw (get_or-set_other w c j x 0 (λ e. omega arith), down-below w c x j (omega arith))

pub down-set : (w : List ℕ) (c x : ℕ) → c < length w → down (set w c x) (suc c) ≡ x ∷ down w c
down-set w c x h = rw (get_or-set_same w c x 0 h, down-below w c x c (omega arith))

-- ---- a turn of the loop

-- what a byte comes to, to where the reading stands after it
abbrev pub after_reading : Standing → Result ByteReading Refusal → Result Standing Refusal
after_reading d (Ok reading) = Ok (after_byte d reading)
after_reading d (Err r) = Err r

abbrev pub RoomFor : ℕ → Result ByteReading Refusal → Type 0
RoomFor count (Ok reading) = HasRoom count reading
RoomFor count (Err r) = Unit

-- the number at which the next byte is read, and those that wait
pub open_held : {n : ℕ} (d : Standing) {k : ℕ} → Ready n d → d.here ≡ Some k → Held n k (down d.waiting d.count)
open_held {n} d ready here = subst (λ (s : Option ℕ). HeldAt n s (down d.waiting d.count)) here ready.held

module _ {n : ℕ} {S : System} (law : Lawful n S) (few : n ≤ 7) where
  -- the states after an act that may be done
  held-set : (k i q : ℕ) (b : Bool) (ks : List ℕ) → T (may S k (Set i q b)) → Held n k ks → Held n (set_to k i b) ks
  held-set k i q b ks m h = record {
    here = set_below k i b 7 h.here (omega (arith, law.setting_of_case k (Set i q b) m));
    there = h.there;
    pending = pending-set law k i q b ks m h.pending;
  }

  held_look : (k i q : ℕ) (ks : List ℕ) → T (may S k (Look i q)) → Held n k ks → Held n (look_at k i false) (look_at k i true ∷ ks)
  held_look k i q ks m h = record {
    here = look_below k i false 7 h.here (omega (arith, law.setting_of_case k (Look i q) m));
    there = (look_below k i true 7 h.here (omega (arith, law.setting_of_case k (Look i q) m)), h.there);
    pending = pending_look law k i q ks m h.pending;
  }

  module _ (d : Standing) (k : ℕ) where
    -- one more waits after a look, and they are still no more than n
    look_room : (i q : ℕ) → T (may S k (Look i q)) → Held n k (down d.waiting d.count) → d.count < n
    look_room i q m h =
        let next = held_look k i q (down d.waiting d.count) m h in
        omega (
          arith,
          down-length d.waiting d.count,
          pending-most n (look_at k i false) (look_at k i true ∷ down d.waiting d.count) next.pending,
        )

    has_room : (at c : ℕ) (r : C.Reading) → Step S k c r → Held n k (down d.waiting d.count) → RoomFor d.count (reading_of at r)
    has_room at c r stops h = tt
    has_room at c r (sets i q b m) h = tt
    has_room at c r (looks i q m) h = omega (arith, look_room i q m h)
    has_room at c r (faults f w) h = tt

    pub room_for : (at c : ℕ) {x : Result ByteReading Refusal} → Held n k (down d.waiting d.count)
        → x ≡ reading_of at (read_byte S k c) → RoomFor d.count x
    room_for at c h e = subst (RoomFor d.count) (sym e) (has_room at c (read_byte S k c) (step S k c) h)

    -- after a stop
    stop-ready : (w : List ℕ) (c : ℕ) → length w ≡ 7 → c ≤ n → Held n k (down w c) → Ready n (stopped_standing w c)
    stop-ready w zero r m h = record { room = r; most = omega arith; held = tt }
    stop-ready w (suc c) r m h = record {
      room = r;
      most = omega arith;
      held = record { here = h.there.0; there = h.there.1; pending = pending-stop n k (get_or w c 0) (down w c) h.pending };
    }

    stop-same : (w : List ℕ) (c at : ℕ) (cs : List ℕ) → answer_of (judge S (down w c) at cs) ≡ answer_from S (stopped_standing w c) at cs
    stop-same w zero at cs = refl
    stop-same w (suc c) at cs = refl

    turn_step : (at c : ℕ) (r : C.Reading) → read_byte S k c ≡ r → Step S k c r → Ready n d → d.here ≡ Some k
        → Held n k (down d.waiting d.count) → Turned n S d at c (after_reading d (reading_of at r))
    turn_step at c r e stops ready here h = record {
      ready = stop-ready d.waiting d.count ready.room ready.most h;
      same = λ cs. rw here
          (ap answer_of (judge-on S k (down d.waiting d.count) at c cs [] e) ∙ stop-same d.waiting d.count (suc at) cs);
    }
    turn_step at c r e (sets i q b m) ready here h = record {
      ready = record { room = ready.room; most = ready.most; held = held-set k i q b (down d.waiting d.count) m h };
      same = λ cs. rw here (ap answer_of (judge-on S k (down d.waiting d.count) at c cs (set_to k i b ∷ []) e));
    }
    turn_step at c r e (looks i q m) ready here h =
        let few-wait = look_room i q m h in
        let stored = down-set d.waiting d.count (look_at k i true) (omega (arith, ready.room)) in
        record {
          ready = record {
            room = length-set d.waiting d.count (look_at k i true) ∙ ready.room;
            most = omega arith;
            held = rw stored (held_look k i q (down d.waiting d.count) m h);
          };
          same = λ cs. rw (here, stored)
              (ap answer_of (judge-on S k (down d.waiting d.count) at c cs (look_at k i false ∷ look_at k i true ∷ []) e));
        }
    turn_step at c r e (faults f w) ready here h = λ cs. rw here (ap answer_of (judge-fails S k (down d.waiting d.count) at c cs f e))

    pub turn_open : (at c : ℕ) {x : Result ByteReading Refusal} → Ready n d → d.here ≡ Some k → x ≡ reading_of at (read_byte S k c)
        → Turned n S d at c (after_reading d x)
    turn_open at c ready here e =
        subst (λ (x : Result ByteReading Refusal). Turned n S d at c (after_reading d x)) (sym e)
        (turn_step at c (read_byte S k c) refl (step S k c) ready here (open_held d ready here))

-- ---- the loop

-- before the byte with index at: the answer is what the standing and the bytes from there on give
pub record Walking (n : ℕ) (S : System) (k : ℕ) (plan : List ℕ) (d : Standing) (at : ℕ) : Type 0 where
  pub ready : Ready n d
  pub same : answer_of (check S k plan) ≡ answer_from S d at (drop at plan)

pub first-ready : (n k : ℕ) → k < 7 ^ 7 → Ready n (first_standing k)
first-ready n k h = record {
  room = refl;
  most = omega arith;
  held = record { here = h; there = tt; pending = pending-first n k };
}

module _ {n : ℕ} {S : System} (k : ℕ) (plan : List ℕ) where
  pub walking_first : {d : Standing} → k < 7 ^ 7 → d ≡ first_standing k → Walking n S k plan d 0
  walking_first h e = rw e (record { ready = first-ready n k h; same = refl })

  module _ {d : Standing} {at : ℕ} (w : Walking n S k plan d at) where
    -- the byte that is read, before those that are left
    next-byte : at < length plan → answer_of (check S k plan) ≡ answer_from S d at (get_or plan at 0 ∷ drop (suc at) plan)
    next-byte h = w.same ∙ ap (answer_from S d at) (drop-cons plan at 0 h)

    pub walking_on : {r : Standing} → at < length plan → Turned n S d at (get_or plan at 0) (Ok r) → Walking n S k plan r (at + 1)
    walking_on {r} h t = record {
      ready = t.ready;
      same = next-byte h ∙ t.same (drop (suc at) plan) ∙ ap (λ (i : ℕ). answer_from S r i (drop i plan)) (sym (add-one at));
    }

    pub walking_fault : {r : Refusal} → at < length plan → Turned n S d at (get_or plan at 0) (Err r) → Err r ≡ answer_of (check S k plan)
    walking_fault h t = sym (next-byte h ∙ t (drop (suc at) plan))
