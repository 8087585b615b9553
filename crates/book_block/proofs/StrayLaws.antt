-- Byte by byte and bit by bit: a setting's tables have no bit that must be zero exactly where each byte has only its live bits.
use Rattle.std.proofs.Common.{◌≡◌, ℕ, ◌+◌, ◌-◌, ◌*◌, ◌/◌, ◌%◌, ◌^◌, ◌<◌, ◌≤◌, min, false, List, length, get_or, drop, sym, ap, ◌∙◌, ⊎_elim, lt_of_le_of_lt, mod-eq_of_lt, one-mul, arith, lit<, get_or-drop, pow_mono, le-leb}
use lib.Arith.{lt-one}
use lib.Pow.{pow_pos}
use Rattle.std.proofs.lemmas.List.{get_or_past}
use borrow.Author.Tests.{lt-leb}
use Rattle.ground.specs.Digits.{bit}
use Rattle.ground.specs.Table.{truth, Within}
use Rattle.book_block.specs.declared.rule.Right.{Right}
use Rattle.book_block.specs.declared.rule.Right.TheVariants.{Look, Set}
use Rattle.book_block.specs.Rule.{table_place, table}
use Rattle.book_block.specs.Kinds.{Zeros, Tables}
use Rattle.book_block.specs.Live.{live, Clean}
use Rattle.ground.proofs.Lists.{get_d_part}
use Rattle.ground.proofs.Bools.{lt_or_ge}
use Rattle.ground.proofs.HighBits.{high_bit, low_bits}

pub live-none : (n m j : ℕ) → 32 * m ≤ j → live n m j ≡ 0
unfolding live
live-none n m j h = rw (live, le-leb (32 * m) j h)

pub live-some : (n m j : ℕ) → j < 32 * m → live n m j ≡ min 8 (2 ^ n - 8 * (j % 16))
unfolding live
live-some n m j h = rw (live, lt-leb (32 * m) j h)

-- where byte j of a setting's tables stands: post, right, byte of the table
pub record Spot (j : ℕ) : Type 0 where
  pub q : ℕ
  pub right : Right
  pub o : ℕ
  pub post : q < 8
  pub low : o < 16
  pub here : table_place q right + o ≡ j

pub spot : (j : ℕ) → j < 256 → Spot j
unfolding table_place
spot j h =
    ⊎_elim
    (λ (l : j % 32 < 16). record { q = j / 32; right = Look; o = j % 32; post = omega arith; low = l; here = omega arith })
    (λ (l : 16 ≤ j % 32). record { q = j / 32; right = Set; o = j % 32 - 16; post = omega arith; low = omega arith; here = omega arith })
    (lt_or_ge (j % 32) 16)

-- byte o of a table, in the setting's bytes; the place of the table decides the post and the byte
pub table-byte : (bytes : List ℕ) (q : ℕ) (right : Right) (o : ℕ) → o < 16 → get_or (table bytes q right) o 0 ≡ get_or bytes (table_place q right + o) 0
unfolding table
table-byte bytes q right o h = get_d_part bytes (table_place q right) 16 o h

place-mod : (q : ℕ) (right : Right) (o : ℕ) → o < 16 → (table_place q right + o) % 16 ≡ o
unfolding table_place
place-mod q Look o h = omega arith
place-mod q Set o h = omega arith

pub place-post : (q : ℕ) (right : Right) (o : ℕ) → o < 16 → (32 * q ≤ table_place q right + o) × (table_place q right + o < 32 * q + 32)
unfolding table_place
place-post q Look o h = omega arith
place-post q Set o h = omega arith

-- from the tables to the bytes
module _ (n m : ℕ) (bytes : List ℕ) (byte : (j : ℕ) → j < 256 → get_or bytes j 0 < 256) (good : Tables n m bytes) where
  bits_off : (q : ℕ) (right : Right) (o b : ℕ) → q < 8 → o < 16 → b < 8 → 2 ^ n ≤ 8 * o + b → bit (get_or bytes (table_place q right + o) 0) b ≡ false
  unfolding Within truth
  bits_off q right o b hq ho hb h =
      let d : (8 * o + b) / 8 ≡ o = omega arith in
      let r : (8 * o + b) % 8 ≡ b = omega arith in
      let w : bit (get_or (table bytes q right) ((8 * o + b) / 8) 0) ((8 * o + b) % 8) ≡ false = good.within q right hq (8 * o + b) h (omega arith) in
      rw (← table-byte bytes q right o ho) (rw (d, r) at w)

  clean_at : (j : ℕ) → j < 256 → get_or bytes j 0 < 2 ^ live n m j
  unfolding Zeros
  clean_at j h =
      let s = spot j h in
      let e : get_or (table bytes s.q s.right) s.o 0 ≡ get_or bytes j 0 = table-byte bytes s.q s.right s.o s.low ∙ ap (λ (k : ℕ). get_or bytes k 0) s.here in
      let u : (32 * s.q ≤ table_place s.q s.right + s.o) × (table_place s.q s.right + s.o < 32 * s.q + 32) = place-post s.q s.right s.o s.low in
      let v : (table_place s.q s.right + s.o) % 16 ≡ s.o = place-mod s.q s.right s.o s.low in
      let here = s.here in
      ⊎_elim
      (λ (l : j < 32 * m).
      let k = min 8 (2 ^ n - 8 * (j % 16)) in
      let full : k + (8 - k) ≡ 8 = omega arith in
      rw (live-some n m j l)
      (low_bits (min 8 (2 ^ n - 8 * (j % 16))) (8 - min 8 (2 ^ n - 8 * (j % 16))) (get_or bytes j 0) (rw full (byte j h))
      (λ b lo hi.
      rw (← here)
      (bits_off s.q s.right s.o b s.post s.low (omega arith) (omega arith)))))
      (λ (l : 32 * m ≤ j).
      let z : get_or bytes j 0 ≡ 0 = sym e ∙ good.nobody s.q s.right (omega arith) s.post s.o (omega arith) s.low in
      rw (live-none n m j l, z) (lit< tt))
      (lt_or_ge j (32 * m))

  pub tables-clean : Clean n m bytes
  unfolding Clean
  tables-clean = clean_at

-- from the bytes to the tables
module _ (n m : ℕ) (bytes : List ℕ) (clean : Clean n m bytes) where
  spot_clean : (q : ℕ) (right : Right) (o : ℕ) → q < 8 → o < 16 → get_or (table bytes q right) o 0 < 2 ^ live n m (table_place q right + o)
  unfolding Clean
  spot_clean q right o hq ho =
      let u : (32 * q ≤ table_place q right + o) × (table_place q right + o < 32 * q + 32) = place-post q right o ho in
      rw (table-byte bytes q right o ho) (clean (table_place q right + o) (omega arith))

  off : (q : ℕ) (right : Right) (o : ℕ) → m ≤ q → q < 8 → o < 16 → get_or (table bytes q right) o 0 ≡ 0
  off q right o hm hq ho =
      let u : (32 * q ≤ table_place q right + o) × (table_place q right + o < 32 * q + 32) = place-post q right o ho in
      let z : live n m (table_place q right + o) ≡ 0 = live-none n m (table_place q right + o) (omega arith) in
      lt-one (rw z at (spot_clean q right o hq ho))

  live_under : (q : ℕ) (right : Right) (o b : ℕ) → o < 16 → 2 ^ n ≤ 8 * o + b → live n m (table_place q right + o) ≤ b
  live_under q right o b ho h =
      let v : (table_place q right + o) % 16 ≡ o = place-mod q right o ho in
      ⊎_elim
      (λ l. rw (live-some n m (table_place q right + o) l) (omega arith))
      (λ l. rw (live-none n m (table_place q right + o) l) (omega arith))
      (lt_or_ge (table_place q right + o) (32 * m))

  pub clean-tables : Tables n m bytes
  unfolding Zeros Within truth
  clean-tables =
      record {
        nobody = λ q right hm hq o _ ho. off q right o hm hq ho;
        within =
            λ q right hq v h l.
            high_bit (get_or (table bytes q right) (v / 8) 0) (live n m (table_place q right + v / 8)) (v % 8)
            (spot_clean q right (v / 8) hq (omega arith))
            (live_under q right (v / 8) (v % 8) (omega arith) (omega arith));
      }

-- from seven settings on every bit of a table that is there at all may be set
pub live_full : (n m j : ℕ) → j < 32 * m → 7 ≤ n → live n m j ≡ 8
live_full n m j h k = live-some n m j h ∙ (let p : 2 ^ 7 ≤ 2 ^ n = pow_mono k in omega arith)

-- 2^n, as a shift gives it
pub one_shifted : (n : ℕ) → n < 7 → 1 * 2 ^ n % 2 ^ 64 ≡ 2 ^ n
one_shifted n h =
    let most : n ≤ 7 = omega arith in
    rw one-mul (mod-eq_of_lt (lt_of_le_of_lt (pow_mono most) (lit< tt)))

-- the bytes of a part are bytes
pub dropped_small : (bytes : List ℕ) (from : ℕ) → ((j : ℕ) → get_or bytes j 0 < 256) → (j : ℕ) → j < 256 → get_or (drop from bytes) j 0 < 256
dropped_small bytes from byte j h = rw (get_or-drop from bytes j 0) (byte (from + j))

-- a byte that is not there fits any count of bits
pub past_fits : (bytes : List ℕ) (j k : ℕ) → length bytes ≤ j → get_or bytes j 0 < 2 ^ k
past_fits bytes j k h = rw (get_or_past bytes j 0 h) (pow_pos k)
