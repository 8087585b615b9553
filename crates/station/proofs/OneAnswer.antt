-- The contract of `replay` allows one answer alone: no record is both faultless and at fault, nor at fault for two things, so two answers have come equally
-- far; and none of the rows is given where a shift is played.
use Rattle.std.specs.Prelude.{Option, Result, Ok, Err}
use mathlib.Core.Path.{◌≡◌, refl, sym, ap, ap₂, ◌∙◌, subst}
use mathlib.Core.Logic.{inl, inr}
use mathlib.Core.List.{List}
use Prim.Native.Nat.{ℕ, ◌<◌}
use native.Mathlib.Omega.{arith}
use lib.Dec.{T}
use Rattle.ground.proofs.Bools.{lt_or_ge}
use Rattle.refusal.specs.declared.Refusal.{Refusal}
use Rattle.refusal.specs.Order.{Clear}
use Rattle.refusal.proofs.OrderLaws.{first_unique, first-clear, clear-append, clear-past, clear_none}
use Rattle.book_sound.proofs.SoundLaws.{sound-settings, sound-clear}
use Rattle.book_sound.proofs.Theorems.{sound-one}
use Rattle.knowledge_acts.specs.Acts.{act_of}
use Rattle.knowledge_acts.specs.declared.act.Act.{Act}
use Rattle.station.specs.declared.record.Running.{Running}
use Rattle.station.specs.declared.shift.Replayed.{Replayed}
use Rattle.station.specs.declared.shift.Replayed.TheVariants.{Whole, Stopped}
use Rattle.station.specs.Station.{allowed, shown}
use Rattle.station.specs.Shift.{act_byte, seen_byte, settings_at, IsRecord, IsFaultless, RecordFault, no_record, not_allowed, disagrees}
use Rattle.station.specs.Shift.{IsAtFault, fault_at, Reached, StopsAt}
use Rattle.station.specs.Replay.{ShiftFits, replay_rows, Plays, PlaysAs, Replays}
use Rattle.station.proofs.RecordLaws.{one_act}

-- ---- one record

-- it is of one act
record_one : {n m : ℕ} {named : Option Act} {seen : ℕ} {a b : Act} → IsRecord n m named seen a → IsRecord n m named seen b → a ≡ b
record_one r s = one_act (sym r.names ∙ s.names)

module _ (n m : ℕ) (book : List ℕ) (v : ℕ) (named : Option Act) (seen : ℕ) where
  allowed_of : {a b : Act} → IsRecord n m named seen a → IsRecord n m named seen b → T (allowed book v a) → T (allowed book v b)
  allowed_of r s t = subst (λ (a : Act). T (allowed book v a)) (record_one r s) t

  -- not both faultless and at fault
  pub fault-none : (f : RecordFault) → IsAtFault f n m book v named seen → IsFaultless n m book v named seen → ⊥
  fault-none no_record none x = none x.act_done x.is_record_case
  fault-none not_allowed (a, r, barred) x = barred (allowed_of x.is_record_case r x.was_allowed)
  fault-none disagrees (a, r, t, unlike) x = unlike (x.was_shown ∙ ap (shown v) (record_one x.is_record_case r))

  -- at fault for one thing
  pub fault-one : (f g : RecordFault) → IsAtFault f n m book v named seen → IsAtFault g n m book v named seen → f ≡ g
  fault-one no_record no_record x y = refl
  fault-one no_record not_allowed none (a, r, barred) = absurd (none a r)
  fault-one no_record disagrees none (a, r, t, unlike) = absurd (none a r)
  fault-one not_allowed no_record (a, r, barred) none = absurd (none a r)
  fault-one not_allowed not_allowed x y = refl
  fault-one not_allowed disagrees (a, r, barred) (b, s, t, unlike) = absurd (barred (allowed_of s r t))
  fault-one disagrees no_record (a, r, t, unlike) none = absurd (none a r)
  fault-one disagrees not_allowed (a, r, t, unlike) (b, s, barred) = absurd (barred (allowed_of r s t))
  fault-one disagrees disagrees x y = refl

-- ---- one shift

module _ (n m : ℕ) (book : List ℕ) (start : ℕ) (shift : List ℕ) where
  abbrev Far : Running → Type 0
  Far running = Reached n m book start shift running

  abbrev Stops : Running → Refusal → Type 0
  Stops running why = StopsAt n m book shift running why

  abbrev FaultAt : RecordFault → ℕ → ℕ → Type 0
  FaultAt f v k = IsAtFault f n m book v (act_of (act_byte shift k)) (seen_byte shift k)

  -- what is at fault next, on the settings that the records before it leave
  fault-there : (running : Running) (why : Refusal) → Far running → (s : Stops running why)
      → FaultAt s.fault (settings_at start shift running.count) running.count
  fault-there running why r s = subst (λ v. FaultAt s.fault v running.count) r.left s.at_fault

  -- nobody comes past a record at fault
  not-past : (running other : Running) (why : Refusal) → Far running → Stops running why → Far other → running.count < other.count → ⊥
  not-past running other why r s o l = fault-none n m book _ _ _ s.fault (fault-there running why r s) (o.faultless running.count l)

  -- those who have come equally far have reached the same
  reached-one : (running other : Running) → Far running → Far other → running.count ≡ other.count → running ≡ other
  reached-one running other r o e =
      let same : running.present.0 ≡ other.present.0 = r.left ∙ ap (settings_at start shift) e ∙ sym o.left in
      ap₂ (λ v k. record { present = record { 0 = v }; count = k }) same e

  -- and are stopped by the same
  stopped-one : (running other : Running) (why also : Refusal) → Far running → Stops running why → Far other → Stops other also
      → running.count ≡ other.count → why ≡ also
  stopped-one running other why also r s o t e =
      let here = fault-there running why r s in
      let there = subst (λ k. FaultAt t.fault (settings_at start shift k) k) (sym e) (fault-there other also o t) in
      s.why_is ∙ ap₂ fault_at (fault-one n m book _ _ _ s.fault t.fault here there) e ∙ sym t.why_is

  pub plays-one : (x y : Replayed) → Plays n m book start shift x → Plays n m book start shift y → x ≡ y
  plays-one (Whole running) (Whole other) (r, e) (o, f) = ap Whole (reached-one running other r o (e ∙ sym f))
  plays-one (Whole running) (Stopped why other) (r, e) (o, t) = absurd (not-past other running why o t r (omega (arith, e, t.more)))
  plays-one (Stopped why running) (Whole other) (r, s) (o, f) = absurd (not-past running other why r s o (omega (arith, f, s.more)))
  plays-one (Stopped why running) (Stopped also other) (r, s) (o, t) =
      let same : running.count ≡ other.count = elim (lt_or_ge running.count other.count) [
        | inl l ↦ absurd (not-past running other why r s o l)
        | inr g ↦ (elim (lt_or_ge other.count running.count) [ inl l ↦ absurd (not-past other running also o t r l) | inr h ↦ omega arith ])
      ] in
      ap₂ Stopped (stopped-one running other why also r s o t same) (reached-one running other r o same)

-- ---- one answer

module _ (book : List ℕ) (start : ℕ) (shift : List ℕ) where
  -- none of the rows is given where a shift is played
  pub played_clear : {x : Replayed} → PlaysAs book start shift x → Clear (replay_rows book start shift)
  unfolding replay_rows
  played_clear p =
      clear-append (sound-clear p.sound)
      (clear-past (subst (λ (n : ℕ). ShiftFits n start shift) (sym (sound-settings p.sound)) p.fits) clear_none)

  played_one : {x y : Replayed} → PlaysAs book start shift x → PlaysAs book start shift y → x ≡ y
  played_one {x} {y} p q =
      let e = sound-one p.sound q.sound in
      plays-one q.n q.m book start shift x y
      (subst (λ (n : ℕ). Plays n q.m book start shift x) e.0 (subst (λ (m : ℕ). Plays p.n m book start shift x) e.1 p.plays)) q.plays

  pub replays-one : (x y : Result Replayed Refusal) → Replays book start shift x → Replays book start shift y → x ≡ y
  replays-one (Ok answer) (Ok other) p q = ap Ok (played_one p q)
  replays-one (Ok answer) (Err why) p q = first-clear q (played_clear p)
  replays-one (Err why) (Ok other) p q = first-clear p (played_clear q)
  replays-one (Err why) (Err also) p q = ap Err (first_unique p q)
