-- The byte of an act names that act and no other: both ways between bytes and acts, by division and by a test at all 169 bytes.
use mathlib.Core.Path.{◌≡◌}
use mathlib.Core.Logic.{inl, inr}
use mathlib.Core.Bool.{Bool, true, ◌&&◌}
use Prim.Native.Nat.{ℕ, ◌<◌}
use native.Mathlib.Omega.{arith}
use lib.Dec.{T, eqb, ltb, eqb→eq, ltb→lt}
use borrow.Author.Tests.{lt-ltb, lt-leb}
use Rattle.ground.specs.Search.{all}
use Rattle.ground.proofs.Bools.{and_left, and_right, lt_or_ge}
use Rattle.ground.proofs.Search.{all-at}
use Rattle.knowledge_acts.specs.Acts.{setting_of, post_of, byte_of, act_of}
use Rattle.knowledge_acts.specs.declared.act.Act.{Act}
use Rattle.knowledge_acts.proofs.Acts.{act_of_byte}
use Rattle.std.proofs.Common.{Option, Some, None}

-- no byte past 168 names an act
past : (c : ℕ) → 168 < c → act_of c ≡ None
unfolding act_of
past c h = rw (lt-ltb 0 c (omega arith), lt-leb c 168 h)

-- an act named by a byte has that byte
right : ℕ → Option Act → Bool
right c (Some a) = eqb (byte_of a) c && ltb c 169
right c None = true

byte-right : (c : ℕ) → T (right c (act_of c))
unfolding right all act_of byte_of
byte-right c = elim (lt_or_ge c 169) [
  | inl l ↦ all-at 169 (λ c. right c (act_of c)) tt c l
  | inr l ↦ rw (past c l) tt
]

pub byte_of_act : (c : ℕ) (a : Act) → act_of c ≡ Some a → (byte_of a ≡ c) × (c < 169)
unfolding right
byte_of_act c a e =
    let t : T (right c (Some a)) = rw e at (byte-right c) in
    (eqb→eq (byte_of a) c (and_left (eqb (byte_of a) c) (ltb c 169) t), ltb→lt c 169 (and_right (eqb (byte_of a) c) (ltb c 169) t))

-- acts of seven settings and eight posts with one byte are one act
pub byte_injective : (a c : Act) → setting_of a < 7 → post_of a < 8 → setting_of c < 7 → post_of c < 8 → byte_of a ≡ byte_of c → a ≡ c
byte_injective a c ha la hc lc e = cc (act_of_byte a ha la, act_of_byte c hc lc)

pub byte_positive : (a : Act) → 0 < byte_of a
unfolding byte_of
byte_positive a = omega arith
