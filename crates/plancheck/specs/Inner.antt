-- Inside: what the functions of this crate hand to one another. Where the reading of a plan stands is a list of pending states; plan/specs/Check
-- says what reading comes to.
use Rattle.std.specs.Prelude.{◌≡◌, List, [], ◌∷◌, ℕ, zero, suc, ◌^◌, ◌≤◌, ◌<◌, length, get_or, set, replicate, Option, Some, None, Result, Ok, Err}
use Rattle.refusal.specs.declared.Refusal.{Refusal}
use Rattle.plan.specs.Plans.{System}
use Rattle.plan.specs.Pending.{Pending}
use Rattle.plan.specs.Check.{Verdict, accepted, faulty, judge}
use Rattle.plancheck.specs.Refusals.{refusal_of}
use Rattle.plancheck.specs.declared.reading.ByteReading.{ByteReading}
use Rattle.plancheck.specs.declared.reading.ByteReading.TheVariants.{Stops, Goes, Parts}
use Rattle.plancheck.specs.declared.standing.Standing.{Standing}

-- the answer of a judgement
abbrev pub answer_of : Verdict → Result (Unit {0}) Refusal
answer_of accepted = Ok tt
answer_of (faulty f i) = Err (refusal_of f i)

-- the first c entries, the last of them first
abbrev pub down : List ℕ → ℕ → List ℕ
down waiting zero = []
down waiting (suc c) = get_or waiting c 0 ∷ down waiting c

abbrev pub first_standing : ℕ → Standing
first_standing k = record { here = Some k; waiting = replicate 7 0; count = 0 }

abbrev pub stopped_standing : List ℕ → ℕ → Standing
stopped_standing waiting zero = record { here = None; waiting = waiting; count = 0 }
stopped_standing waiting (suc c) = record { here = Some (get_or waiting c 0); waiting = waiting; count = c }

abbrev pub moved_standing : Standing → ℕ → Standing
moved_standing d x = record { here = Some x; waiting = d.waiting; count = d.count }

abbrev pub parted_standing : Standing → ℕ → ℕ → Standing
parted_standing d x y = record { here = Some x; waiting = set d.waiting d.count y; count = suc d.count }

abbrev pub after_byte : Standing → ByteReading → Standing
after_byte d Stops = stopped_standing d.waiting d.count
after_byte d (Goes x) = moved_standing d x
after_byte d (Parts x y) = parted_standing d x y

-- a look finds room for the outcome that waits
abbrev pub HasRoom : ℕ → ByteReading → Type 0
HasRoom count Stops = Unit
HasRoom count (Goes x) = Unit
HasRoom count (Parts x y) = count < 7

-- numbers of seven digits
abbrev pub Small : List ℕ → Type 0
Small [] = Unit
Small (k ∷ ks) = (k < 7 ^ 7) × Small ks

-- a state that is read at, and those that wait
pub record Held (n k : ℕ) (ks : List ℕ) : Type 0 where
  pub here : k < 7 ^ 7
  pub there : Small ks
  pub pending : Pending n k ks

abbrev pub HeldAt : ℕ → Option ℕ → List ℕ → Type 0
HeldAt n None ks = Unit
HeldAt n (Some k) ks = Held n k ks

-- a reading over n settings: no more than n states wait
pub record Ready (n : ℕ) (d : Standing) : Type 0 where
  pub room : length d.waiting ≡ 7
  pub most : d.count ≤ n
  pub held : HeldAt n d.here (down d.waiting d.count)

-- the states that are pending: the one that is read at, before those that wait
abbrev pub pending_at : Option ℕ → List ℕ → List ℕ
pending_at None ks = []
pending_at (Some k) ks = k ∷ ks

-- the answer where the reading stands so before the byte with index at, and these bytes are left
abbrev pub answer_from : System → Standing → ℕ → List ℕ → Result (Unit {0}) Refusal
answer_from S d at cs = answer_of (judge S (pending_at d.here (down d.waiting d.count)) at cs)

-- a turn of the loop without a fault: whatever bytes follow, the answer is the same after it
pub record TurnedTo (n : ℕ) (S : System) (before : Standing) (at byte : ℕ) (after : Standing) : Type 0 where
  pub ready : Ready n after
  pub same : (cs : List ℕ) → answer_from S before at (byte ∷ cs) ≡ answer_from S after (suc at) cs

-- a turn, and with a fault the answer is its refusal, whatever bytes follow
abbrev pub Turned : ℕ → System → Standing → ℕ → ℕ → Result Standing Refusal → Type 0
Turned n S before at byte (Ok after) = TurnedTo n S before at byte after
Turned n S before at byte (Err r) = (cs : List ℕ) → answer_from S before at (byte ∷ cs) ≡ Err r
