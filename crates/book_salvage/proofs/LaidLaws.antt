-- The blocks of a salvaged book: each is 512 bytes, with a right check and no bit that must be zero, whether it was closed or stayed.
use mathlib.Core.Path.{◌≡◌, refl, sym, ap, ◌∙◌, subst}
use mathlib.Core.Bool.{Bool, true, false}
use mathlib.Core.List.{List, ◌++◌}
use Prim.Native.Nat.{ℕ, ◌+◌, ◌*◌, ◌/◌, ◌%◌, ◌≤◌, ◌<◌}
use native.Mathlib.Omega.{arith}
use lib.ListN.{length, get_or, take, drop, replicate, length-replicate, replicate-append-replicate}
use lib.Seq.{sets}
use Rattle.ground.specs.Digits.{bit}
use Rattle.ground.specs.Table.{truth, Within}
use Rattle.ground.proofs.Bits.{bit_of_zero}
use Rattle.ground.specs.Bounds.{SettingsFit, PostsFit}
use Rattle.ground.proofs.Lists.{length_part}
use Rattle.ground.proofs.Table.{zero_at}
use Rattle.book_block.specs.declared.rule.Right.{Right}
use Rattle.book_block.specs.Check.{block, RightCheck}
use Rattle.book_block.specs.Rule.{table_place, table}
use Rattle.book_block.specs.Kinds.{Zeros, Head, Tables}
use Rattle.book_block.specs.Sealed.{sealed, sealed_at, setting_block}
use Rattle.book_block.proofs.SealLaws.{run_on, seal_on}
use Rattle.book_block.proofs.StrayLaws.{table-byte}
use Rattle.book_block.proofs.BlockLaws.{length-setting, setting-right, setting-setting, setting-byte}
use Rattle.book_sound.specs.Sound.{Sound, in_order}
use Rattle.book_sound.proofs.InOrder.{in_order-same}
use Rattle.book_sound.proofs.Laid.{length-laid, laid-head, laid-setting, laid-sound, laid-again}
use Rattle.book_salvage.specs.Salvaged.{Stands, MarksOf, closed_block, setting_after, salvaged_book}
use Rattle.book_salvage.proofs.MarkLaws.{unmarked_stands}

-- ---- the closed block

zero_tables : length (replicate {A = ℕ} 256 0) ≡ 256
zero_tables = length-replicate {A = ℕ} 256 0

zero_byte : (q : ℕ) (right : Right) (o : ℕ) → o < 16 → get_or (table (replicate 256 0) q right) o 0 ≡ 0
zero_byte q right o h = table-byte (replicate 256 0) q right o h ∙ zero_at 256 (table_place q right + o)

closed_tables : (n m : ℕ) → Tables n m (replicate 256 0)
unfolding Zeros Within truth
closed_tables n m =
    record {
      nobody = λ q right hm hq o z h. zero_byte q right o h;
      within = λ q right hq v l h. ap (λ x. bit x (v % 8)) (zero_byte q right (v / 8) (omega arith)) ∙ bit_of_zero (v % 8);
    }

pub length_closed : length closed_block ≡ 512
unfolding closed_block
length_closed = length-setting (replicate 256 0) zero_tables

-- it stands, for any n and m
pub closed_stands : (n m : ℕ) → Stands n m closed_block
unfolding closed_block
closed_stands n m =
    record {
      check = setting-right (replicate 256 0) zero_tables;
      clean = setting-setting (replicate 256 0) zero_tables (closed_tables n m);
    }

-- all its table bytes are zero
pub closed_byte : (j : ℕ) → j < 256 → get_or closed_block j 0 ≡ 0
unfolding closed_block
closed_byte j h = setting-byte (replicate 256 0) zero_tables j h ∙ zero_at 256 j

-- zeros, and then their check
pub close-on : (room zeroed after : List ℕ) (at : ℕ) → at + 512 ≤ length room → zeroed ≡ sets room at (replicate 508 0) → after ≡ sealed_at zeroed at
    → after ≡ sets room at closed_block
unfolding closed_block setting_block
close-on room zeroed after at h p q =
    seal_on room zeroed after (replicate 508 0) at (length-replicate {A = ℕ} 508 0) h p q
    ∙ ap (λ (s : List ℕ). sets room at (sealed s)) (sym (replicate-append-replicate {A = ℕ} 256 252 0))

-- ---- the block of a setting

module _ (book : List ℕ) (marks i : ℕ) where
  pub after-marked : bit marks i ≡ true → setting_after book marks i ≡ closed_block
  unfolding setting_after
  after-marked e = rw (setting_after, e)

  pub after_unmarked : bit marks i ≡ false → setting_after book marks i ≡ block book (1 + i)
  unfolding setting_after
  after_unmarked e = rw (setting_after, e)

  -- and what a room holds once it is written
  pub lay_closed : (room : List ℕ) {after : List ℕ} → bit marks i ≡ true → after ≡ sets room (512 * (1 + i)) closed_block
      → after ≡ sets room (512 * (1 + i)) (setting_after book marks i)
  lay_closed room e p = p ∙ ap (sets room (512 * (1 + i))) (sym (after-marked e))

  pub lay_kept : (room : List ℕ) {after : List ℕ} → bit marks i ≡ false → after ≡ sets room (512 * (1 + i)) (take 512 (drop (512 * (1 + i)) book))
      → after ≡ sets room (512 * (1 + i)) (setting_after book marks i)
  unfolding block
  lay_kept room e p = p ∙ ap (sets room (512 * (1 + i))) (sym (after_unmarked e))

  -- one of the two
  pub after_either : (P : List ℕ → Type 0) → (bit marks i ≡ true → P closed_block) → (bit marks i ≡ false → P (block book (1 + i)))
      → P (setting_after book marks i)
  after_either P closed kept = cases (bit marks i) refl
    where
      cases : (b : Bool) → bit marks i ≡ b → P (setting_after book marks i)
      cases true e = subst P (sym (after-marked e)) (closed e)
      cases false e = subst P (sym (after_unmarked e)) (kept e)

  pub length-after : 512 * (2 + i) ≤ length book → length (setting_after book marks i) ≡ 512
  unfolding block
  length-after h = after_either (λ (b : List ℕ). length b ≡ 512) (λ _. length_closed) (λ _. length_part book (512 * (1 + i)) 512 (omega arith))

-- ---- the whole book, of n settings whose blocks are there

module _ (book : List ℕ) (marks n : ℕ) (size : 512 * (1 + n) ≤ length book) where
  head-long : length (block book 0) ≡ 512
  unfolding block
  head-long = length_part book (512 * 0) 512 (omega arith)

  long : (i : ℕ) → i < n → length (setting_after book marks i) ≡ 512
  long i h = length-after book marks i (omega arith)

  pub length_salvaged : length (salvaged_book book marks n) ≡ 512 * (1 + n)
  unfolding salvaged_book
  length_salvaged = length-laid (block book 0) (setting_after book marks) n head-long long

  pub salvaged_head : block (salvaged_book book marks n) 0 ≡ block book 0
  unfolding salvaged_book
  salvaged_head = laid-head (block book 0) (setting_after book marks) n head-long long

  pub salvaged_setting : (i : ℕ) → i < n → block (salvaged_book book marks n) (1 + i) ≡ setting_after book marks i
  unfolding salvaged_book
  salvaged_setting = laid-setting (block book 0) (setting_after book marks) n head-long long

  -- the head block, and then those of the settings, are one run from the first byte of the room
  pub lay_all : (room headed after : List ℕ) → headed ≡ sets room 0 (block book 0) → after ≡ sets headed 512 (in_order (setting_after book marks) n)
      → after ≡ sets room 0 (salvaged_book book marks n)
  unfolding salvaged_book
  lay_all room headed after p q = run_on room headed after (block book 0) (in_order (setting_after book marks) n) 0 512 (omega (arith, head-long)) p q

  -- whatever was marked: a head that can be relied on and blocks that stand make a sound book
  pub salvaged_sound : {m : ℕ} → SettingsFit n → PostsFit m → RightCheck (block book 0) → Head n m (block book 0) → MarksOf book n m marks
      → Sound (salvaged_book book marks n) n m
  unfolding salvaged_book
  salvaged_sound {m} settings posts right head marked =
      laid-sound (block book 0) (setting_after book marks) n head-long long settings posts right head
      (λ i h. (stood i h).check) (λ i h. (stood i h).clean)
    where
      stood : (i : ℕ) → i < n → Stands n m (setting_after book marks i)
      stood i h = after_either book marks i (Stands n m) (λ _. closed_stands n m) (λ e. unmarked_stands (marked.tells i h) e)

-- without a mark the book is laid again from its own blocks
pub salvaged_same : (book : List ℕ) (n : ℕ) → length book ≡ 512 * (1 + n) → salvaged_book book 0 n ≡ book
unfolding salvaged_book
salvaged_same book n size =
    ap (λ (s : List ℕ). block book 0 ++ s)
    (in_order-same (setting_after book 0) (λ i. block book (1 + i)) n (λ i h. after_unmarked book 0 i (bit_of_zero i)))
    ∙ laid-again book n size
