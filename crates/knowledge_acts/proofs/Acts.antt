-- An act and its byte name one another: the three parts of the byte are its quotients and remainders.
use mathlib.Core.Path.{◌≡◌, refl, sym, ap, ◌∙◌}
use mathlib.Core.Bool.{Bool, true, false, ◌&&◌}
use Prim.Native.Nat.{ℕ, zero, suc, ◌+◌, ◌*◌, ◌-◌, ◌/◌, ◌%◌, ◌≤◌, ◌<◌}
use native.Mathlib.Nat.{mod-lt}
use native.Mathlib.Omega.{arith}
use lib.Dec.{T, ltb, leb, ltb→lt, leb→le, lit<, lit≤}
use borrow.Author.Tests.{lt-ltb, le-leb}
use Rattle.ground.proofs.Bools.{and_left, and_right}
use Rattle.knowledge_acts.specs.Acts.{setting_of, post_of, kind_of, byte_of, plan_byte, of_kind, named, act_of}
use Rattle.knowledge_acts.specs.declared.act.Act.{Act}
use Rattle.knowledge_acts.specs.declared.act.Act.TheVariants.{Set, Look}
use Rattle.std.proofs.Common.{Some}

-- any kind but the two sets is a look
pub kind_look : (kind i q : ℕ) → (kind ≡ 0 → ⊥) → (kind ≡ 1 → ⊥) → of_kind kind i q ≡ Look i q
kind_look zero i q a b = absurd (a refl)
kind_look (suc zero) i q a b = absurd (b refl)
kind_look (suc (suc kind)) i q a b = refl

-- an act and its byte
pub of_kind_of : (a : Act) → of_kind (kind_of a) (setting_of a) (post_of a) ≡ a
of_kind_of (Set i q false) = refl
of_kind_of (Set i q true) = refl
of_kind_of (Look i q) = refl

kind_most : (a : Act) → kind_of a ≤ 2
kind_most (Set i q false) = lit≤ tt
kind_most (Set i q true) = lit≤ tt
kind_most (Look i q) = lit≤ tt

pub byte_of_kind : (kind i q : ℕ) → kind ≤ 2 → byte_of (of_kind kind i q) ≡ 1 + (kind * 7 + i) * 8 + q
unfolding byte_of
byte_of_kind zero i q h = refl
byte_of_kind (suc zero) i q h = refl
byte_of_kind (suc (suc zero)) i q h = refl
byte_of_kind (suc (suc (suc kind))) i q h = absurd (omega arith)

pub setting_of_kind : (kind i q : ℕ) → setting_of (of_kind kind i q) ≡ i
setting_of_kind zero i q = refl
setting_of_kind (suc zero) i q = refl
setting_of_kind (suc (suc kind)) i q = refl

pub post_of_kind : (kind i q : ℕ) → post_of (of_kind kind i q) ≡ q
post_of_kind zero i q = refl
post_of_kind (suc zero) i q = refl
post_of_kind (suc (suc kind)) i q = refl

-- the three parts of an act's byte
module _ (kind i q : ℕ) (hi : i < 7) (hq : q < 8) where
  kind_part : (1 + (kind * 7 + i) * 8 + q - 1) / 56 ≡ kind
  kind_part = omega arith

  setting_part : (1 + (kind * 7 + i) * 8 + q - 1) / 8 % 7 ≡ i
  setting_part = omega arith

  post_part : (1 + (kind * 7 + i) * 8 + q - 1) % 8 ≡ q
  post_part = omega arith

pub act_of_byte : (a : Act) → setting_of a < 7 → post_of a < 8 → act_of (byte_of a) ≡ Some a
unfolding act_of byte_of
act_of_byte a hi hq =
    rw (
      lt-ltb 0 (1 + (kind_of a * 7 + setting_of a) * 8 + post_of a) (omega arith),
      le-leb (1 + (kind_of a * 7 + setting_of a) * 8 + post_of a) 168 (omega (arith, kind_most a)),
      kind_part (kind_of a) (setting_of a) (post_of a) hi hq,
      setting_part (kind_of a) (setting_of a) (post_of a) hi hq,
      post_part (kind_of a) (setting_of a) (post_of a) hi hq,
    )
    (ap Some (of_kind_of a))

-- what `byte` gives, on the seven settings by the eight posts
pub plan-byte : (a : Act) → setting_of a < 7 → post_of a < 8 → plan_byte a ≡ byte_of a
unfolding plan_byte
plan-byte a hi hq = rw (lt-ltb (setting_of a) 7 hi, lt-ltb (post_of a) 8 hq)

-- what a byte names has that byte, a setting below 7 and a post below 8
named-one : (c : Bool) (x a : Act) → named c x ≡ Some a → T c × (x ≡ a)
named-one true x a e = (tt, cc)
named-one false x a e = absurd cc

pub byte_of_act : (byte : ℕ) (a : Act) → act_of byte ≡ Some a → (byte_of a ≡ byte) × (setting_of a < 7) × (post_of a < 8)
unfolding act_of
byte_of_act byte a e =
    let kind = (byte - 1) / 56 in
    let i = (byte - 1) / 8 % 7 in
    let q = (byte - 1) % 8 in
    let p = named-one (ltb 0 byte && leb byte 168) (of_kind kind i q) a e in
    let some = ltb→lt 0 byte (and_left (ltb 0 byte) (leb byte 168) p.0) in
    let most = leb→le byte 168 (and_right (ltb 0 byte) (leb byte 168) p.0) in
    let sum : 1 + (kind * 7 + i) * 8 + q ≡ byte = omega arith in (
      sym (ap byte_of p.1) ∙ byte_of_kind kind i q (omega arith) ∙ sum,
      rw (← p.1, setting_of_kind kind i q) (mod-lt ((byte - 1) / 8) (lit< tt)),
      rw (← p.1, post_of_kind kind i q) (mod-lt (byte - 1) (lit< tt)),
    )
