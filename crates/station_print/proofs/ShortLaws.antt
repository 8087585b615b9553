-- A shift that is not refused is short, and its bytes are bytes: of a text by its grammar, since the two bytes of a record that text can say are small.
use mathlib.Core.Path.{◌≡◌, refl, ap, subst}
use mathlib.Core.Bool.{Bool, true, false, ◌&&◌}
use mathlib.Core.List.{List}
use Prim.Native.Nat.{ℕ, zero, suc, ◌-◌, ◌/◌, ◌%◌, ◌≤◌, ◌<◌}
use native.Mathlib.Omega.{arith}
use lib.Dec.{T, leb, ltb, leb→le, eqb→eq}
use lib.ListN.{length, get_or}
use borrow.Author.Tests.{ltb-false}
use Rattle.ground.proofs.Bools.{and_right}
use Rattle.refusal.specs.declared.Refusal.TheVariants.{SheetLength}
use Rattle.knowledge_acts.specs.Acts.{named, of_kind, act_of}
use Rattle.knowledge_acts.specs.declared.act.Act.{Act}
use Rattle.knowledge_acts.specs.declared.act.Act.TheVariants.{Set, Look}
use Rattle.station_text.specs.Records.{seen_in, is_record}
use Rattle.station_text.specs.Meaning.{gives, refused_if, is_text}
use Rattle.station_text.specs.Grammar.{ShiftTextOf, ended, passing, saying}
use Rattle.station_text.proofs.Theorems.{taken-only, bytes_most}
use Rattle.station_print.specs.Prints.{meaning_as, shift_meaning}
use Rattle.station_print.specs.Inner.{Readable}

-- every element is a byte
abbrev pub AreBytes : List ℕ → Type 0
AreBytes s = (i : ℕ) → get_or s i 0 < 256

record_small : (c v : ℕ) → T (is_record c v) → (c < 256) × (v < 256)
unfolding is_record act_of
record_small c v h = by_test (ltb 0 c && leb c 168) (λ t. leb→le c 168 (and_right (ltb 0 c) (leb c 168) t)) h
  where
    seen_small : (a : Act) → T (seen_in (named true a) v) → v < 256
    seen_small (Set i q b) t = omega (arith, eqb→eq v 0 t)
    seen_small (Look i q) t = omega (arith, leb→le v 1 t)

    by_test : (b : Bool) → (T b → c ≤ 168) → T (seen_in (named b (of_kind ((c - 1) / 56) ((c - 1) / 8 % 7) ((c - 1) % 8))) v) → (c < 256) × (v < 256)
    by_test true f t = (omega (arith, f tt), seen_small (of_kind ((c - 1) / 56) ((c - 1) / 8 % 7) ((c - 1) % 8)) t)
    by_test false f t = absurd t

text-bytes : {s b : List ℕ} → ShiftTextOf s b → AreBytes b
text-bytes ended i = omega arith
text-bytes (passing l h e p) i = text-bytes p i
text-bytes (saying c v h p) zero = (record_small c v h).0
text-bytes (saying c v h p) (suc zero) = (record_small c v h).1
text-bytes (saying c v h p) (suc (suc i)) = text-bytes p i

pub record Short (shift bytes : List ℕ) : Type 0 where
  pub readable : Readable shift bytes
  pub are_bytes : AreBytes bytes

module _ (shift bytes : List ℕ) (are : AreBytes shift) where
  short-bytes : (b : Bool) → ltb 2097152 (length shift) ≡ b → refused_if b SheetLength (gives shift) ≡ gives bytes → Short shift bytes
  unfolding refused_if
  short-bytes true l z = absurd (let y : ◌≡◌ {A = ℕ} 0 1 = cc in omega arith)
  short-bytes false l z =
      let most = ltb-false 2097152 (length shift) l in
      let same : shift ≡ bytes = cc in
      record { readable = record { shift_most = most; bytes_most = omega (arith, ap length same) }; are_bytes = subst AreBytes same are }

  short_as : (b : Bool) → meaning_as b shift ≡ gives bytes → Short shift bytes
  short_as true z =
      let x = taken-only shift bytes z in
      record { readable = record { shift_most = x.1; bytes_most = omega (arith, bytes_most shift bytes z) }; are_bytes = text-bytes x.0 }
  short_as false z = short-bytes (ltb 2097152 (length shift)) refl z

  pub gives-short : shift_meaning shift ≡ gives bytes → Short shift bytes
  unfolding shift_meaning
  gives-short e = short_as (is_text shift) e
