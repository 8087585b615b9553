-- `length` meets its contract: each step leads to a lower entry of the rank table, which is the measure.
use mathlib.Core.Path.{◌≡◌, refl, ap, ◌∙◌, subst}
use mathlib.Core.Bool.{false, true}
use Prim.Native.Nat.{ℕ, ◌^◌, ◌<◌}
use native.Mathlib.Omega.{arith}
use Rattle.std.proofs.Common.{Some}
use Rattle.knowledge_acts.specs.declared.act.Act.TheVariants.{Set, Look}
use Rattle.plan.specs.Plans.{System, stop}
use Rattle.plan.specs.Ranks.{Chosen}
use Rattle.finder.specs.Tables.{TablesTell, Chooses}
use Rattle.finder.proofs.StepLaws.{number_small}
use Rattle.finder.proofs.PlanLaws.{next-set, next_look, next_here, step-setting, most, stop-plan, set-plan, look_plan}
use Rattle.finder.proofs.written.+length.Goals as goal
use Rattle.finder.proofs.written.+length.Goals.{In-Set, In-Look}

-- the act chosen, whatever system the tables tell
set-chosen : (t : ℕ) (c : In-Set t) (S : System) → TablesTell c.args.n c.args.set.now c.args.look.now c.args.ranks.now S
    → Chosen S c.args.k (Set c.in-Set.setting c.in-Set.post c.in-Set.value)
set-chosen t c S u = subst (Chooses S c.args.ranks.now c.args.k) (c.in-Some.is ∙ ap Some c.in-Set.is) (c.choose.ensures S u)

look-chosen : (t : ℕ) (c : In-Look t) (S : System) → TablesTell c.args.n c.args.set.now c.args.look.now c.args.ranks.now S
    → Chosen S c.args.k (Look c.in-Look.setting c.in-Look.post)
look-chosen t c S u = subst (Chooses S c.args.ranks.now c.args.k) (c.in-Some.is ∙ ap Some c.in-Look.is) (c.choose.ensures S u)

-- and by the system that there is
set_here : (t : ℕ) (c : In-Set t) → Chosen c.requires.system c.args.k (Set c.in-Set.setting c.in-Set.post c.in-Set.value)
set_here t c = set-chosen t c c.requires.system c.requires.told

look_here : (t : ℕ) (c : In-Look t) → Chosen c.requires.system c.args.k (Look c.in-Look.setting c.in-Look.post)
look_here t c = look-chosen t c c.requires.system c.requires.told

-- so the number that its outcome has is the one handed back
after-set : (t : ℕ) (c : In-Set t) {x y : ℕ} → (c.args.k < 7 ^ 7 → c.in-Set.setting < 7 → x ≡ y) → x ≡ y
after-set t c f = f (number_small _ _ c.requires.few c.requires.state) (step-setting c.requires _ (set_here t c))

after-look : (t : ℕ) (c : In-Look t) {x y : ℕ} → (c.args.k < 7 ^ 7 → c.in-Look.setting < 7 → x ≡ y) → x ≡ y
after-look t c f = f (number_small _ _ c.requires.few c.requires.state) (step-setting c.requires _ (look_here t c))

pub length-requires : goal.length-requires
length-requires t c =
    let at = (goal.at.length-requires t c).In-Set in
    next_here c.requires (after-set t at c.set_to.ensures.number) c.decreases (next-set c.requires _ _ _ (set_here t at))

pub length-no-requires : goal.length-no-requires
length-no-requires t c =
    let at = (goal.at.length-no-requires t c).In-Look in
    next_here c.requires (after-look t at c.look_at.ensures.number) c.decreases (next_look c.requires _ _ false (look_here t at))

pub length-yes-requires : goal.length-yes-requires
length-yes-requires t c =
    let at = (goal.at.length-yes-requires t c).In-Look in
    next_here c.requires (after-look t at c.look_at-in-Look.ensures.number) c.decreases (next_look c.requires _ _ true (look_here t at))

pub returns-in_default : goal.returns-in_default
returns-in_default t c = (omega arith, λ S u. (stop, stop-plan c.requires S u (c.in_default.ensures S u), refl))

pub returns-in-Set : goal.returns-in-Set
returns-in-Set t c =
    let at = (goal.at.returns-in-Set t c).In-Set in
    let f = set-plan (set-chosen t at) (after-set t at c.set_to.ensures.number) c.length.ensures.1 in
    (most c.requires f, f)

pub returns-in-Look : goal.returns-in-Look
returns-in-Look t c =
    let at = (goal.at.returns-in-Look t c).In-Look in
    let f =
    look_plan (look-chosen t at) (after-look t at c.look_at.ensures.number) (after-look t at c.look_at-in-Look.ensures.number) c.length-no.ensures.1
    c.length-yes.ensures.1 in
    (most c.requires f, f)
