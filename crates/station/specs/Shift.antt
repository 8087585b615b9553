-- A recorded shift: "two bytes an act, the act byte and what was seen (0 or 1; 0 for a set)". Played from a true starting valuation, it stops at "the first
-- act that the station's rules did not allow on the true settings".
use Rattle.std.specs.Prelude.{◌≡◌, List, ℕ, zero, suc, ◌+◌, ◌*◌, ◌/◌, ◌≤◌, ◌<◌, T, length, get_or, Option, Some}
use Rattle.knowledge_acts.specs.Acts.{act_of}
use Rattle.knowledge_acts.specs.declared.act.Act.{Act}
use Rattle.refusal.specs.declared.Refusal.{Refusal}
use Rattle.refusal.specs.declared.Refusal.TheVariants.{NoRecord, NotAllowed, Disagrees}
use Rattle.station.specs.declared.record.Running.{Running}
use Rattle.station.specs.Station.{of_book, allowed, shown, seen_most, leaves}

-- "two bytes an act": how many records a shift has, and the two bytes of the one with index k
abbrev pub records : List ℕ → ℕ
records shift = length shift / 2

unfoldable pub act_byte : List ℕ → ℕ → ℕ
act_byte shift k = get_or shift (2 * k) 0

unfoldable pub seen_byte : List ℕ → ℕ → ℕ
seen_byte shift k = get_or shift (2 * k + 1) 0

-- the true settings before record k, where the shift begins on v: each act leaves what the next one meets
unfoldable pub settings_at : ℕ → List ℕ → ℕ → ℕ
settings_at v shift zero = v
settings_at v shift (suc k) = leaves (settings_at v shift k) (act_of (act_byte shift k))

-- a record of an act of the book: 27 denies this. "no act of this book or a second byte that is not 0 or 1 (not 0 for a set)"
pub record IsRecord (n m : ℕ) (named : Option Act) (seen : ℕ) (a : Act) : Type 0 where
  pub names : named ≡ Some a
  pub of_book_case : T (of_book n m a)
  pub second : seen ≤ seen_most a

-- on the settings v: an act of the book, allowed there, that showed what was recorded
pub record IsFaultless (n m : ℕ) (book : List ℕ) (v : ℕ) (named : Option Act) (seen : ℕ) : Type 0 where
  pub act_done : Act
  pub is_record_case : IsRecord n m named seen act_done
  pub was_allowed : T (allowed book v act_done)
  pub was_shown : seen ≡ shown v act_done

-- what a record can be at fault for, in this order
pub data RecordFault : Type 0 where
  -- 27 "no act of this book or a second byte that is not 0 or 1 (not 0 for a set)"
  no_record : RecordFault
  -- 28 "not permitted"
  not_allowed : RecordFault
  -- 29 "a look that disagrees"
  disagrees : RecordFault

-- "in this order": a later fault is one only where no earlier one is
abbrev pub IsAtFault : RecordFault → ℕ → ℕ → List ℕ → ℕ → Option Act → ℕ → Type 0
IsAtFault no_record n m book v named seen = (a : Act) → IsRecord n m named seen a → ⊥
IsAtFault not_allowed n m book v named seen = (a : Act) × IsRecord n m named seen a × (T (allowed book v a) → ⊥)
IsAtFault disagrees n m book v named seen = (a : Act) × IsRecord n m named seen a × T (allowed book v a) × (seen ≡ shown v a → ⊥)

-- "each with the record's index"
abbrev pub fault_at : RecordFault → ℕ → Refusal
fault_at no_record k = NoRecord k
fault_at not_allowed k = NotAllowed k
fault_at disagrees k = Disagrees k

-- "one running record that each act updates": the settings that the act of a byte leaves, and one act more
abbrev pub stepped_by : Running → ℕ → Running
stepped_by running byte = record {
  present = record { 0 = leaves running.present.0 (act_of byte) };
  count = running.count + 1;
}

-- what was reached: that many records of the shift are faultless, each on the settings that those before it left, and what they all left
pub record Reached (n m : ℕ) (book : List ℕ) (start : ℕ) (shift : List ℕ) (running : Running) : Type 0 where
  pub there : running.count ≤ records shift
  pub faultless : (k : ℕ) → k < running.count → IsFaultless n m book (settings_at start shift k) (act_of (act_byte shift k)) (seen_byte shift k)
  pub left : running.present.0 ≡ settings_at start shift running.count

-- the next record, which is there, is at fault on what was left
pub record StopsAt (n m : ℕ) (book : List ℕ) (shift : List ℕ) (running : Running) (why : Refusal) : Type 0 where
  pub more : running.count < records shift
  pub fault : RecordFault
  pub why_is : why ≡ fault_at fault running.count
  pub at_fault : IsAtFault fault n m book running.present.0 (act_of (act_byte shift running.count)) (seen_byte shift running.count)
