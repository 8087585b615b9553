-- "A plan is written act first, then what follows; after a look the false outcome's plan, then the true one's. A stop is 0."
use Rattle.std.specs.Prelude.{List, [], ◌∷◌, ◌++◌, ℕ}
use Rattle.knowledge_acts.specs.Acts.{byte_of}
use Rattle.knowledge_acts.specs.declared.act.Act.TheVariants.{Set, Look}
use Rattle.plan.specs.Plans.{Plan, stop, set_then, look_then}

abbrev pub encode : Plan → List ℕ
encode stop = 0 ∷ []
encode (set_then i q b p) = byte_of (Set i q b) ∷ encode p
encode (look_then i q p r) = byte_of (Look i q) ∷ (encode p ++ encode r)
