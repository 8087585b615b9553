-- A shift, record by record: what was reached grows by each record that is faultless, and a record at fault ends it.
use Rattle.std.specs.Prelude.{Ok, Err}
use mathlib.Core.Path.{◌≡◌, ap, subst}
use mathlib.Core.List.{List}
use Prim.Native.Nat.{ℕ, suc, ◌+◌, ◌<◌}
use native.Mathlib.Omega.{arith}
use Rattle.ground.proofs.Search.{below_suc}
use Rattle.knowledge_acts.specs.Acts.{act_of}
use Rattle.refusal.specs.declared.Refusal.{Refusal}
use Rattle.station.specs.declared.record.Running.{Running}
use Rattle.station.specs.declared.shift.Replayed.TheVariants.{Stopped}
use Rattle.station.specs.Station.{leaves}
use Rattle.station.specs.Shift.{records, act_byte, seen_byte, settings_at, IsFaultless, stepped_by, Reached}
use Rattle.station.specs.Replay.{Plays}
use Rattle.station.specs.Inner.{Judges}

module _ (n m : ℕ) (book : List ℕ) (start : ℕ) (shift : List ℕ) where
  abbrev FaultlessAt : ℕ → ℕ → Type 0
  FaultlessAt v k = IsFaultless n m book v (act_of (act_byte shift k)) (seen_byte shift k)

  -- before the first record
  pub reached-first : (running : Running) → running.present.0 ≡ start → running.count ≡ 0 → Reached n m book start shift running
  unfolding settings_at
  reached-first running e z = record {
    there = omega arith;
    faultless = λ k l. absurd (omega arith);
    left = rw z e;
  }

  module _ (running : Running) (reached : Reached n m book start shift running) where
    -- after one that is faultless
    pub reached-more : (next : Running) → running.count < records shift
        → Judges n m book running.present.0 running.count (act_of (act_byte shift running.count)) (seen_byte shift running.count) (Ok tt)
        → next ≡ stepped_by running (act_byte shift running.count) → Reached n m book start shift next
    unfolding settings_at
    reached-more next more judged e =
        let grown : running.count + 1 ≡ suc running.count = omega arith in
        rw e (record {
          there = omega arith;
          faultless = λ k l.
              below_suc k running.count (omega (arith, l))
              (λ same. rw same (subst (λ v. FaultlessAt v running.count) reached.left judged))
              (λ before. reached.faultless k before);
          left = rw grown (ap (λ v. leaves v (act_of (act_byte shift running.count))) reached.left);
        })

    -- at one that is not
    pub plays-stopped : (why : Refusal) → running.count < records shift
        → Judges n m book running.present.0 running.count (act_of (act_byte shift running.count)) (seen_byte shift running.count) (Err why)
        → Plays n m book start shift (Stopped why running)
    plays-stopped why more judged = (reached, record { more = more; fault = judged.0; why_is = judged.1; at_fault = judged.2 })
