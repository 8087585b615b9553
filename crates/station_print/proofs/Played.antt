-- What is printed fits what was played: the words are those of the fault, the settings are a START for the next shift, and the line that is said is the one
-- whose two bytes the replay read.
use mathlib.Core.Path.{◌≡◌, refl, ap, ◌∙◌}
use mathlib.Core.List.{List, [], ◌∷◌}
use Prim.Native.Nat.{ℕ, ◌+◌, ◌*◌, ◌<◌}
use native.Mathlib.Omega.{arith}
use lib.Dec.{T}
use lib.ListN.{get_or}
use Rattle.refusal.specs.declared.Refusal.{Refusal}
use Rattle.refusal.specs.Refusals.{number}
use Rattle.sheet_words.specs.Words.{split, newline}
use Rattle.station.specs.Shift.{records, act_byte, seen_byte, RecordFault, no_record, not_allowed, disagrees, fault_at}
use Rattle.station.specs.Replay.{PlaysAs}
use Rattle.station.specs.declared.record.Running.{Running}
use Rattle.station.specs.declared.shift.Replayed.TheVariants.{Whole, Stopped}
use Rattle.station.proofs.ShiftShape.{reached-below}
use Rattle.station_text.specs.Lines.{line_record}
use Rattle.station_text.specs.Meaning.{gives, line_of, read_meaning}
use Rattle.station_text.specs.Grammar.{GivesAt}
use Rattle.station_text.proofs.Theorems.{bytes-given, line_gives}
use Rattle.station_print.specs.Start.{start_words, names_all, StartIs}
use Rattle.station_print.specs.Settings.{setting_names}
use Rattle.station_print.specs.Faults.{fault_numbered}
use Rattle.station_print.specs.declared.ReplayTold.{ReplayTold}
use Rattle.station_print.specs.declared.ReplayFault.{ReplayFault}
use Rattle.std.specs.Prelude.{Some, Result}
use Rattle.station_print.proofs.Theorems.{next_start, print_unique}
use Rattle.station_print.proofs.print.Reads as print

-- the words are those of the fault that stopped the shift
pub numbered_back : (f : RecordFault) (k : ℕ) → fault_numbered (number (fault_at f k)) ≡ f
numbered_back no_record k = refl
numbered_back not_allowed k = refl
numbered_back disagrees k = refl

-- the settings that are printed of a replay are a START, which says them
module _ (book : List ℕ) (start : ℕ) (shift : List ℕ) (running : Running) where
  abbrev Restarts : ℕ → Type 0
  Restarts n = let words = start_words (setting_names n running.present.0) in T (names_all n words) × StartIs n words running.present.0

  pub whole_restarts : (p : PlaysAs book start shift (Whole running)) → Restarts p.n
  whole_restarts p =
      next_start p.n running.present.0 p.sound.settings.least p.sound.settings.most
      (reached-below p.n p.m book start shift p.fits.below running p.plays.0)

  pub stopped_restarts : (why : Refusal) (p : PlaysAs book start shift (Stopped why running)) → Restarts p.n
  stopped_restarts why p =
      next_start p.n running.present.0 p.sound.settings.least p.sound.settings.most
      (reached-below p.n p.m book start shift p.fits.below running p.plays.0)

-- the line of record k says the two bytes that the replay reads there
pub text-plays : (s b : List ℕ) → read_meaning s ≡ gives b → (k : ℕ) → k < records b
    → (M : ℕ) × (line_of 1 k (split newline s) ≡ Some M) × (g : GivesAt (split newline s) k M) × (line_record (get_or (split newline s) g.index []) ≡ act_byte b k ∷ seen_byte b k ∷ [])
unfolding act_byte seen_byte
text-plays s b e k l =
    let same = bytes-given s b e in
    let g = line_gives s k (rw same (omega (arith, l))) in
    (g.0, g.1, g.2, g.2.own ∙ ap (λ (x : List ℕ). get_or x (2 * k) 0 ∷ get_or x (2 * k + 1) 0 ∷ []) same)

-- one result over the function's own contract, as the check reads it
pub print_one : (κs : _) (a : _) (x y : Result ReplayTold ReplayFault) (s : _) → print.Post κs a x s → print.Post κs a y s → x ≡ y
print_one κs a x y s p q =
    (print_unique a.0.now a.1.0.now a.1.1.0.now a.1.1.1.0.now x y s.1.1.1.0.now s.1.1.1.0.now p q).0
