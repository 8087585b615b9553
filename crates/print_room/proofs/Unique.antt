-- What `put`, `word` and `number` leave is settled: any two results that `Wrote` allows are equal, the place after the text and the whole room.
use mathlib.Core.Path.{◌≡◌, sym, ◌∙◌}
use mathlib.Core.List.{List}
use Prim.Native.Nat.{ℕ}
use Rattle.print_room.specs.Wrote.{Wrote}

pub wrote_unique : {old text new other : List ℕ} {to next end : ℕ} → Wrote old to text new next → Wrote old to text other end → (next ≡ end) × (new ≡ other)
wrote_unique a b = (a.next_place ∙ sym b.next_place, a.room ∙ sym b.room)
