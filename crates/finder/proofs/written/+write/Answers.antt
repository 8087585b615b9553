-- `write` meets its contract: the step's byte, then what follows it; each step leads to a lower entry of the rank table, which is the measure.
use mathlib.Core.Path.{◌≡◌, refl, sym, ap, ◌∙◌, subst}
use mathlib.Core.Bool.{false, true}
use Prim.Native.Nat.{ℕ, ◌+◌, ◌^◌, ◌<◌}
use native.Mathlib.Omega.{arith}
use lib.ListN.{length, length-set}
use Rattle.std.proofs.Common.{Some}
use Rattle.knowledge_acts.specs.Acts.{plan_byte}
use Rattle.knowledge_acts.specs.declared.act.Act.TheVariants.{Set, Look}
use Rattle.plan.specs.Plans.{System, stop}
use Rattle.plan.specs.Ranks.{Chosen}
use Rattle.finder.specs.Tables.{TablesTell, Chooses, PlanFits}
use Rattle.finder.proofs.StepLaws.{number_small}
use Rattle.finder.proofs.PlanLaws.{next-set, next_look, next_here, step-setting, step-byte, stop-plan, room-here, room-set, set-written}
use Rattle.finder.proofs.PlanLaws.{room_false, room_true, look_written}
use Rattle.finder.proofs.written.+write.Goals as goal
use Rattle.finder.proofs.written.+write.Goals.{Start, In-Set, In-Look}

-- the room has a byte for the step
here : (t : ℕ) (c : Start t) → c.args.at < length c.args.room.now
here t c = room-here c.requires.0 c.requires.1

-- where a plan fits
abbrev Fits : (t : ℕ) → Start t → ℕ → ℕ → ℕ → Type 0
Fits t c x at end = PlanFits c.args.n c.args.set.now c.args.look.now c.args.ranks.now x at end

-- the act chosen, whatever system the tables tell
set-chosen : (t : ℕ) (c : In-Set t) (S : System) → TablesTell c.args.n c.args.set.now c.args.look.now c.args.ranks.now S
    → Chosen S c.args.k (Set c.in-Set.setting c.in-Set.post c.in-Set.value)
set-chosen t c S u = subst (Chooses S c.args.ranks.now c.args.k) (c.in-Some.is ∙ ap Some c.in-Set.is) (c.choose.ensures S u)

look-chosen : (t : ℕ) (c : In-Look t) (S : System) → TablesTell c.args.n c.args.set.now c.args.look.now c.args.ranks.now S
    → Chosen S c.args.k (Look c.in-Look.setting c.in-Look.post)
look-chosen t c S u = subst (Chooses S c.args.ranks.now c.args.k) (c.in-Some.is ∙ ap Some c.in-Look.is) (c.choose.ensures S u)

-- and by the system that there is
set_here : (t : ℕ) (c : In-Set t) → Chosen c.requires.0.system c.args.k (Set c.in-Set.setting c.in-Set.post c.in-Set.value)
set_here t c = set-chosen t c c.requires.0.system c.requires.0.told

look_here : (t : ℕ) (c : In-Look t) → Chosen c.requires.0.system c.args.k (Look c.in-Look.setting c.in-Look.post)
look_here t c = look-chosen t c c.requires.0.system c.requires.0.told

-- so the number that its outcome has is the one handed back
after-set : (t : ℕ) (c : In-Set t) {x y : ℕ} → (c.args.k < 7 ^ 7 → c.in-Set.setting < 7 → x ≡ y) → x ≡ y
after-set t c f = f (number_small _ _ c.requires.0.few c.requires.0.state) (step-setting c.requires.0 _ (set_here t c))

after-look : (t : ℕ) (c : In-Look t) {x y : ℕ} → (c.args.k < 7 ^ 7 → c.in-Look.setting < 7 → x ≡ y) → x ≡ y
after-look t c f = f (number_small _ _ c.requires.0.few c.requires.0.state) (step-setting c.requires.0 _ (look_here t c))

pub bounds-room-at : goal.bounds-room-at
bounds-room-at t c = room-here c.requires.0 c.requires.1

pub bounds-room-at-2 : goal.bounds-room-at-2
bounds-room-at-2 t c = room-here c.requires.0 c.requires.1

pub overflow_add-result : goal.overflow_add-result
overflow_add-result t c = omega (arith, here t (goal.at.overflow_add-result t c).Start)

pub overflow_add-at : goal.overflow_add-at
overflow_add-at t c = omega (arith, here t (goal.at.overflow_add-at t c).Start)

pub overflow_add-at-in-Look : goal.overflow_add-at-in-Look
overflow_add-at-in-Look t c = omega (arith, here t (goal.at.overflow_add-at-in-Look t c).Start)

pub write-requires : goal.write-requires
write-requires t c =
    let place = goal.at.write-requires t c in
    let at = place.In-Set in
    let after = after-set t at c.set_to.ensures.number in
    let next = next_here c.requires.0 after c.decreases (next-set c.requires.0 _ _ _ (set_here t at)) in (
      next.0,
      (
        next.1,
        subst (Fits t place.Start c.set_to.result (c.args.at + 1)) (sym (length-set c.args.room.now c.args.at c.byte.result))
            (room-set c.requires.0 (set-chosen t at) c.args.at (length c.args.room.now) after c.requires.1),
      ),
    )

pub write-next-requires : goal.write-next-requires
write-next-requires t c =
    let place = goal.at.write-next-requires t c in
    let at = place.In-Look in
    let after = after-look t at c.look_at.ensures.number in
    let next = next_here c.requires.0 after c.decreases (next_look c.requires.0 _ _ false (look_here t at)) in (
      next.0,
      (
        next.1,
        subst (Fits t place.Start c.look_at.result (c.args.at + 1)) (sym (length-set c.args.room.now c.args.at c.byte.result))
            (room_false c.requires.0 (look-chosen t at) c.args.at (length c.args.room.now) after c.requires.1),
      ),
    )

pub write-requires-in-Look : goal.write-requires-in-Look
write-requires-in-Look t c =
    let place = goal.at.write-requires-in-Look t c in
    let at = place.In-Look in
    let byte = c.byte.result in
    let first = after-look t at c.look_at.ensures.number in
    let after = after-look t at c.look_at-in-Look.ensures.number in
    let next = next_here c.requires.0 after c.decreases (next_look c.requires.0 _ _ true (look_here t at)) in (
      next.0,
      (
        next.1,
        subst (Fits t place.Start c.look_at-in-Look.result c.write-next.result) (sym (c.write-next.auto.room ∙ length-set c.args.room.now c.args.at byte))
            (room_true c.requires.0 (look-chosen t at) c.args.at (length c.args.room.now) byte c.args.room.now first after c.write-next.ensures c.requires.1),
      ),
    )

pub returns-in_default : goal.returns-in_default
returns-in_default t c = λ S u. (stop, stop-plan c.requires.0 S u (c.in_default.ensures S u), refl, refl)

pub returns-in-Set : goal.returns-in-Set
returns-in-Set t c =
    let at = (goal.at.returns-in-Set t c).In-Set in
    set-written c.requires.0 (set-chosen t at) (after-set t at c.set_to.ensures.number)
    (c.byte.ensures ∙ ap plan_byte c.in-Set.is ∙ step-byte c.requires.0 _ (set_here t at)) c.write.ensures

pub returns-in-Look : goal.returns-in-Look
returns-in-Look t c =
    let at = (goal.at.returns-in-Look t c).In-Look in
    look_written c.requires.0 (look-chosen t at) (after-look t at c.look_at.ensures.number) (after-look t at c.look_at-in-Look.ensures.number)
    (c.byte.ensures ∙ ap plan_byte c.in-Look.is ∙ step-byte c.requires.0 _ (look_here t at)) c.write-next.ensures c.write-in-Look.ensures
