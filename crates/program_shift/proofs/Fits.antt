-- The bytes that are told of a shift's text fit a room of 419,430: two bytes for a line of at least ten.
use mathlib.Core.Path.{◌≡◌, refl, subst}
use mathlib.Core.List.{List}
use Prim.Native.Nat.{ℕ, ◌≤◌}
use native.Mathlib.Omega.{arith}
use Rattle.station_text.specs.Meaning.{Meaning, refused, gives, read_meaning, Tells}
use Rattle.std.specs.Prelude.{Result, Ok}
use Rattle.refusal.specs.declared.Refusal.{Refusal}
use Rattle.station_text.proofs.Theorems.{bytes_most}

pub read-most : (s : List ℕ) (told : Result ℕ Refusal) (room after : List ℕ) → Tells (read_meaning s) told room after → (count : ℕ) → told ≡ Ok count → count ≤ 419430
read-most s told room after reads count e = by_meaning (read_meaning s) refl (subst (λ (t : Result ℕ Refusal). Tells (read_meaning s) t room after) e reads)
  where
    by_meaning : (o : Meaning) → read_meaning s ≡ o → Tells o (Ok count) room after → count ≤ 419430
    by_meaning (refused r) m h = absurd h
    by_meaning (gives b) m h = omega (arith, h.count, bytes_most s b m)
