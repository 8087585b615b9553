-- "A run on a starting valuation keeps real settings: a set changes its setting, a look reads the present value and goes on with
-- that outcome's plan." The real settings are a present valuation v.
use Rattle.std.specs.Prelude.{Bool, true, false, List, [], ◌∷◌, ℕ}
use Rattle.ground.specs.Digits.{put, bit}
use Rattle.knowledge_acts.specs.declared.act.Act.{Act}
use Rattle.knowledge_acts.specs.declared.act.Act.TheVariants.{Set, Look}
use Rattle.plan.specs.Plans.{Plan, stop, set_then, look_then}

-- "a set changes its setting": v with the value b for setting i
unfoldable pub change : ℕ → ℕ → Bool → ℕ
change v i false = put 2 v i 0
change v i true = put 2 v i 1

-- what a run does and sees: a set, or a look with its reading
pub data Event : Type 0 where
  did : Act → Event
  saw : Act → Bool → Event

-- the acts and readings of a plan's run on the real settings v, to its end
abbrev pub run : Plan → ℕ → List Event
run stop v = []
run (set_then i q b p) v = did (Set i q b) ∷ run p (change v i b)
run (look_then i q p r) v = saw (Look i q) (bit v i) ∷ elim (bit v i) [ false ↦ run p v | true ↦ run r v ]
