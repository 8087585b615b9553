-- `knowledge_acts::Act::byte` meets its contract: by the kind of act; that of a set is its value's number.
use mathlib.Core.Path.{◌≡◌, refl}
use mathlib.Core.Bool.{Bool, true, false}
use Prim.Native.Nat.{ℕ}
use mir.Val.{bool_byte}
use Rattle.knowledge_acts.specs.Acts.{plan_byte, byte_of, kind_of}
use Rattle.knowledge_acts.specs.declared.act.Act.TheVariants.{Set}
use Rattle.knowledge_acts.proofs.act.Act.byte.Goals as goal

set_kind : (b : Bool) (i q : ℕ) → kind_of (Set i q b) ≡ bool_byte b
set_kind false i q = refl
set_kind true i q = refl

pub returns-in-Set : goal.returns-in-Set
unfolding plan_byte byte_of
returns-in-Set c = rw (c.in-Set.is, set_kind c.in-Set.value c.in-Set.setting c.in-Set.post, ← c.from.ensures) c.byte_of.ensures

pub returns-in-Look : goal.returns-in-Look
unfolding plan_byte byte_of
returns-in-Look c = rw c.in-Look.is c.byte_of-in-Look.ensures
