-- `finder_ranks::push::other_of` meets its contract: the constant agrees with the set table, by a computed test at the seven digits.
use mathlib.Core.List.{List, [], ◌∷◌}
use mathlib.Core.Path.{◌≡◌}
use Prim.Native.Nat.{ℕ, ◌<◌}
use lib.ListN.{get_or}
use Rattle.ground.specs.Search.{all}
use Rattle.knowledge_acts.specs.Seven.{after_set}
use Rattle.knowledge_acts.proofs.Seven.{at-digit}
use Rattle.finder_ranks.specs.Push.{other}
use Rattle.finder_ranks.proofs.push.other_of.Goals as goal

-- the constant
table : List ℕ
table = 1 ∷ 2 ∷ 1 ∷ 4 ∷ 3 ∷ 6 ∷ 5 ∷ []

in_table : (d : ℕ) → d < 7 → get_or table d 0 ≡ other d
unfolding table all after_set other
in_table d l = at-digit (λ d. get_or table d 0) other tt d l

pub returns : goal.returns
unfolding table
returns c = in_table c.args.d c.requires
