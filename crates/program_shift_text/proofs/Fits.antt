-- What is told of a shift that is read or printed fits its room, since what it means does.
use mathlib.Core.Path.{◌≡◌, refl, subst}
use mathlib.Core.List.{List}
use Prim.Native.Nat.{ℕ, ◌≤◌}
use native.Mathlib.Omega.{arith}
use lib.ListN.{length}
use Rattle.station_text.specs.Meaning.{Meaning, refused, gives, read_meaning, print_meaning, Tells}
use Rattle.std.specs.Prelude.{Result, Ok}
use Rattle.refusal.specs.declared.Refusal.{Refusal}
use Rattle.station_text.proofs.Theorems.{bytes_most, printed-only}

told-most : (most : ℕ) (o : Meaning) → ((b : List ℕ) → o ≡ gives b → length b ≤ most) → (told : Result ℕ Refusal) (room after : List ℕ) → Tells o told room after
    → (count : ℕ) → told ≡ Ok count → count ≤ most
told-most most o given told room after tells count e = by_meaning o given (subst (λ (t : Result ℕ Refusal). Tells o t room after) e tells)
  where
    by_meaning : (o : Meaning) → ((b : List ℕ) → o ≡ gives b → length b ≤ most) → Tells o (Ok count) room after → count ≤ most
    by_meaning (refused r) given h = absurd h
    by_meaning (gives b) given h = omega (arith, h.count, given b refl)

pub read-most : (s : List ℕ) (told : Result ℕ Refusal) (room after : List ℕ) → Tells (read_meaning s) told room after → (count : ℕ) → told ≡ Ok count → count ≤ 419430
read-most s = told-most 419430 (read_meaning s) (bytes_most s)

pub print_most : (s : List ℕ) (told : Result ℕ Refusal) (room after : List ℕ) → Tells (print_meaning s) told room after → (count : ℕ) → told ≡ Ok count → count ≤ 2097152
print_most s = told-most 2097152 (print_meaning s) (λ t e. (printed-only s t e).1)
