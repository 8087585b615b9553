-- After a run: what the team knows from the acts and readings alone, and the real settings that the acts have left.
use Rattle.std.specs.Prelude.{List, [], ◌∷◌, ℕ}
use Rattle.knowledge_acts.specs.Acts.{set_to, look_at}
use Rattle.knowledge_acts.specs.declared.act.Act.TheVariants.{Set, Look}
use Rattle.plan.specs.Runs.{change, Event, did, saw}

-- the knowledge number after an event at k: "An act changes one digit". No run holds a set with a reading, or a look without one
abbrev learns : ℕ → Event → ℕ
learns k (did (Set i q b)) = set_to k i b
learns k (did (Look i q)) = k
learns k (saw (Set i q b) c) = k
learns k (saw (Look i q) c) = look_at k i c

-- the real settings after an event on v: "a set changes its setting"
abbrev becomes : ℕ → Event → ℕ
becomes v (did (Set i q b)) = change v i b
becomes v (did (Look i q)) = v
becomes v (saw a c) = v

-- and after all of them
abbrev pub knows_after : ℕ → List Event → ℕ
knows_after k [] = k
knows_after k (e ∷ l) = knows_after (learns k e) l

abbrev pub real_after : ℕ → List Event → ℕ
real_after v [] = v
real_after v (e ∷ l) = real_after (becomes v e) l
