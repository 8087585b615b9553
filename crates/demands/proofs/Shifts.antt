-- What the replay of a recorded shift says, exactly: which act of a night the station's rules did not allow on the true settings. A shift with no fault has done
-- all its acts; else the count is the number of records before the first fault, and the record there is what the refusal's number says.
use mathlib.Core.Path.{◌≡◌, refl, sym, ap, ◌∙◌}
use mathlib.Core.List.{List}
use Prim.Native.Nat.{ℕ, ◌^◌, ◌<◌}
use native.Mathlib.Omega.{arith}
use Rattle.std.specs.Prelude.{Result, Ok}
use Rattle.refusal.specs.declared.Refusal.{Refusal}
use Rattle.refusal.specs.Refusals.{number, place}
use Rattle.book_sound.specs.Sound.{Sound}
use Rattle.knowledge_acts.specs.Acts.{act_of}
use Rattle.station.specs.Shift.{records, act_byte, seen_byte, settings_at, IsFaultless, RecordFault, no_record, not_allowed, disagrees, IsAtFault, fault_at}
use Rattle.station.specs.Replay.{ShiftFits, Replays}
use Rattle.station.specs.declared.record.Running.{Running}
use Rattle.station.specs.declared.shift.Replayed.{Replayed}
use Rattle.station.specs.declared.shift.Replayed.TheVariants.{Whole, Stopped}
use Rattle.station.proofs.OneAnswer.{replays-one}
use Rattle.station.proofs.ShiftShape.{reached-below}

-- the number of each fault: 27 no act of this book, 28 not permitted, 29 a look that disagrees
abbrev pub fault_number : RecordFault → ℕ
fault_number no_record = 27
fault_number not_allowed = 28
fault_number disagrees = 29

fault-told : (f : RecordFault) (k : ℕ) → (number (fault_at f k) ≡ fault_number f) × (place (fault_at f k) ≡ k)
fault-told no_record k = (refl, refl)
fault-told not_allowed k = (refl, refl)
fault-told disagrees k = (refl, refl)

module _ (book : List ℕ) (start : ℕ) (shift : List ℕ) where
  -- record k is an act of the book of n settings and m posts, allowed on the true settings where it was done, that showed what was recorded
  abbrev pub FaultlessAt : ℕ → ℕ → ℕ → Type 0
  FaultlessAt n m k = IsFaultless n m book (settings_at start shift k) (act_of (act_byte shift k)) (seen_byte shift k)

  -- record k has this fault there
  abbrev pub FaultAt : ℕ → ℕ → RecordFault → ℕ → Type 0
  FaultAt n m f k = IsAtFault f n m book (settings_at start shift k) (act_of (act_byte shift k)) (seen_byte shift k)

  -- what was reached after k records
  abbrev reached_at : ℕ → Running
  reached_at k = record { present = record { 0 = settings_at start shift k }; count = k }

  -- no fault: all its acts are done
  pub whole : (running : Running) → Replays book start shift (Ok (Whole running))
      → (n : ℕ) × (m : ℕ) × Sound book n m × ShiftFits n start shift × (running.count ≡ records shift)
      × (running.present.0 ≡ settings_at start shift (records shift)) × (running.present.0 < 2 ^ n) × ((k : ℕ) → k < records shift → FaultlessAt n m k)
  whole running p =
      let all = p.plays.1 in
      let r = p.plays.0 in
      let below = reached-below p.n p.m book start shift p.fits.below running r in
      (p.n, p.m, p.sound, p.fits, all, r.left ∙ ap (settings_at start shift) all, below, λ k l. r.faultless k (rw all l))

  -- a fault: those before it are faultless, and the record there is what its number says
  pub stopped : (w : Refusal) (running : Running) → Replays book start shift (Ok (Stopped w running))
      → (n : ℕ) × (m : ℕ) × (f : RecordFault) × Sound book n m × ShiftFits n start shift × (running.count < records shift)
      × (running.present.0 ≡ settings_at start shift running.count) × (running.present.0 < 2 ^ n) × ((k : ℕ) → k < running.count → FaultlessAt n m k)
      × FaultAt n m f running.count × (number w ≡ fault_number f) × (place w ≡ running.count)
  stopped w running p =
      let r = p.plays.0 in
      let s = p.plays.1 in
      let told = fault-told s.fault running.count in (
        p.n,
        p.m,
        s.fault,
        p.sound,
        p.fits,
        s.more,
        r.left,
        reached-below p.n p.m book start shift p.fits.below running r,
        r.faultless,
        rw (sym r.left) s.at_fault,
        ap number s.why_is ∙ told.0,
        ap place s.why_is ∙ told.1,
      )

  module _ {n m : ℕ} (s : Sound book n m) (fits : ShiftFits n start shift) where
    -- and the other way: where no record is at fault, that is the answer
    pub faultless-whole : ((k : ℕ) → k < records shift → FaultlessAt n m k) → (x : Result Replayed Refusal) → Replays book start shift x → x ≡ (Ok (Whole (reached_at (records shift))))
    faultless-whole all x p =
        replays-one book start shift x (Ok (Whole (reached_at (records shift)))) p (record {
          n = n;
          m = m;
          sound = s;
          fits = fits;
          plays = (record { there = omega arith; faultless = all; left = refl }, refl);
        })

    -- and where record k is the first at fault, so is this
    pub fault-stopped : (k : ℕ) (f : RecordFault) → k < records shift → ((j : ℕ) → j < k → FaultlessAt n m j) → FaultAt n m f k
        → (x : Result Replayed Refusal) → Replays book start shift x → x ≡ (Ok (Stopped (fault_at f k) (reached_at k)))
    fault-stopped k f more before at x p =
        replays-one book start shift x (Ok (Stopped (fault_at f k) (reached_at k))) p (record {
          n = n;
          m = m;
          sound = s;
          fits = fits;
          plays = (
            record { there = omega arith; faultless = before; left = refl },
            record { more = more; fault = f; why_is = refl; at_fault = at },
          );
        })
