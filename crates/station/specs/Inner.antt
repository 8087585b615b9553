-- Inside: what the functions of this crate hand to one another.
use Rattle.std.specs.Prelude.{◌≡◌, List, ℕ, Option, Result, Ok, Err}
use Rattle.book_block.specs.Rule.{rule_place}
use Rattle.knowledge_acts.specs.Acts.{setting_of, post_of}
use Rattle.knowledge_acts.specs.declared.act.Act.{Act}
use Rattle.refusal.specs.declared.Refusal.{Refusal}
use Rattle.station.specs.Station.{right_of}
use Rattle.station.specs.Shift.{IsFaultless, RecordFault, IsAtFault, fault_at}

-- where the table of an act's rule begins
unfoldable pub rule_at : List ℕ → Act → ℕ
rule_at book a = rule_place book (setting_of a) (post_of a) (right_of a)

-- what is said of the record with index k, on the settings v
abbrev pub Judges : ℕ → ℕ → List ℕ → ℕ → ℕ → Option Act → ℕ → Result (Unit {0}) Refusal → Type 0
Judges n m book v k named seen (Ok done) = IsFaultless n m book v named seen
Judges n m book v k named seen (Err why) = (fault : RecordFault) × (why ≡ fault_at fault k) × IsAtFault fault n m book v named seen
