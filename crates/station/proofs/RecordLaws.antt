-- A record names one act at most.
use Rattle.std.specs.Prelude.{Some, None}
use mathlib.Core.Path.{◌≡◌}
use Rattle.knowledge_acts.specs.declared.act.Act.{Act}

pub one_act : {a b : Act} → Some a ≡ Some b → a ≡ b
one_act e = cc

pub names-none : {A : Type 0} {a : Act} → None ≡ Some a → A
names-none e = absurd cc
