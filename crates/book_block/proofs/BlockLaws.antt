-- Each kind of block and its bytes: a block of either kind with a right check is what stands in it, sealed; and sealed so, it is one. The two ways
-- between a block and what stands in it.
use Rattle.std.proofs.Common.{◌≡◌, ℕ, zero, suc, ◌+◌, ◌-◌, ◌*◌, ◌/◌, ◌%◌, ◌<◌, ◌≤◌, List, [], ◌∷◌, ◌++◌, length, get_or, take, drop, replicate, sym, ap, ◌∙◌, subst, ap₂, arith, lit<, lit≤, length-append, length-take-le, get_or-take, take-suc, get_or-append-add, ext_get_or, take-add}
use lib.ListN.{length-replicate, get_or-replicate, get_or-append}
use Rattle.ground.specs.Digits.{bit}
use Rattle.ground.specs.Table.{truth, Within}
use Rattle.book_block.specs.declared.rule.Right.{Right}
use Rattle.book_block.specs.Check.{block, RightCheck}
use Rattle.book_block.specs.Rule.{table_place, table}
use Rattle.book_block.specs.Kinds.{Zeros, Head, Tables, SettingBlock}
use Rattle.book_block.specs.Sealed.{sealed, head_block, setting_block}
use Rattle.ground.proofs.Lists.{get_d_part, length_part}
use Rattle.book_block.proofs.SealLaws.{length-sealed, right-sealed, sealed-byte, sealed-right}
use Rattle.book_block.proofs.CheckLaws.{block-byte}
use Rattle.book_block.proofs.StrayLaws.{table-byte, place-post}

-- bytes that are zero, as a list
zeros_run : (l : List ℕ) (from n : ℕ) → from + n ≤ length l → Zeros from (from + n) l → take n (drop from l) ≡ replicate n 0
unfolding Zeros
zeros_run l from n h z =
    ext_get_or 0 _ _ (length_part l from n h ∙ sym (length-replicate n 0))
    (λ i k.
    let e : i < n = subst (λ x. i < x) (length_part l from n h) k in
    get_d_part l from n i e ∙ z (from + i) (omega arith) (omega arith) ∙ sym (get_or-replicate n i 0 0 e))

-- ---- from a block to its bytes

module _ (x : List ℕ) (e : length x ≡ 512) where
  head_bytes : {n m : ℕ} → Head n m x → take 508 x ≡ n ∷ m ∷ replicate 506 0
  head_bytes h =
      take-add 2 506 x
      ∙ ap₂ ◌++◌
      (take-suc x 1 0 (omega arith)
      ∙ ap₂ (λ (l : List ℕ) (b : ℕ). l ++ b ∷ []) (take-suc x 0 0 (omega arith) ∙ ap (λ (a : ℕ). a ∷ []) h.settings) h.posts)
      (zeros_run x 2 506 (omega arith) h.rest)

  pub head-sealed : {n m : ℕ} → ((j : ℕ) → j < 512 → get_or x j 0 < 256) → RightCheck x → Head n m x → x ≡ head_block n m
  unfolding head_block
  head-sealed byte right h = right-sealed x e byte right ∙ ap sealed (head_bytes h)

  pub setting-sealed : {n m : ℕ} → ((j : ℕ) → j < 512 → get_or x j 0 < 256) → RightCheck x → SettingBlock n m x → x ≡ setting_block (take 256 x)
  unfolding setting_block
  setting-sealed byte right b =
      right-sealed x e byte right
      ∙ ap sealed (take-add 256 252 x ∙ ap (λ l. take 256 x ++ l) (zeros_run x 256 252 (omega arith) b.rest))

-- ---- from bytes to a block

-- tables that agree in their 256 bytes
pub tables-same : (n m : ℕ) (a b : List ℕ) → ((j : ℕ) → j < 256 → get_or a j 0 ≡ get_or b j 0) → Tables n m a → Tables n m b
unfolding Zeros Within truth
tables-same n m a b same t =
    record {
      nobody = λ q right hm hq o z h. sym (at q right o hq h) ∙ t.nobody q right hm hq o z h;
      within = λ q right hq v l h. ap (λ x. bit x (v % 8)) (sym (at q right (v / 8) hq (omega arith))) ∙ t.within q right hq v l h;
    }
  where
    at : (q : ℕ) (right : Right) (o : ℕ) → q < 8 → o < 16 → get_or (table a q right) o 0 ≡ get_or (table b q right) o 0
    at q right o hq ho =
        let u : (32 * q ≤ table_place q right + o) × (table_place q right + o < 32 * q + 32) = place-post q right o ho in
        table-byte a q right o ho ∙ same (table_place q right + o) (omega arith) ∙ sym (table-byte b q right o ho)

-- and a setting's blocks that agree in the bytes before their checks
setting_same : (n m : ℕ) (a b : List ℕ) → ((j : ℕ) → j < 508 → get_or a j 0 ≡ get_or b j 0) → SettingBlock n m a → SettingBlock n m b
unfolding Zeros
setting_same n m a b same s =
    record {
      tables = tables-same n m a b (λ j h. same j (omega arith)) s.tables;
      rest = λ j l h. sym (same j h) ∙ s.rest j l h;
    }

-- block k, and all from its first byte on
pub setting-block : {n m : ℕ} (book : List ℕ) (k : ℕ) → SettingBlock n m (drop (512 * k) book) → SettingBlock n m (block book k)
setting-block {n} {m} book k = setting_same n m _ _ (λ j h. sym (block-byte book k j (omega arith)))

pub setting-drop : {n m : ℕ} (book : List ℕ) (k : ℕ) → SettingBlock n m (block book k) → SettingBlock n m (drop (512 * k) book)
setting-drop {n} {m} book k = setting_same n m _ _ (λ j h. block-byte book k j (omega arith))

head-length : (n m : ℕ) → length (n ∷ m ∷ replicate 506 0) ≡ 508
head-length n m = ap (λ k. suc (suc k)) (length-replicate {A = ℕ} 506 0)

pub length-head : (n m : ℕ) → length (head_block n m) ≡ 512
unfolding head_block
length-head n m = length-sealed _ (head-length n m)

pub head-right : (n m : ℕ) → RightCheck (head_block n m)
unfolding head_block
head-right n m = sealed-right _ (head-length n m)

pub head-head : (n m : ℕ) → Head n m (head_block n m)
unfolding head_block Zeros
head-head n m =
    record {
      settings = sealed-byte _ (head-length n m) 0 (lit< tt);
      posts = sealed-byte _ (head-length n m) 1 (lit< tt);
      rest = λ j l h. sealed-byte _ (head-length n m) j h ∙ past j l h;
    }
  where
    past : (j : ℕ) → 2 ≤ j → j < 508 → get_or (n ∷ m ∷ replicate 506 0) j 0 ≡ 0
    past zero l h = omega arith
    past (suc zero) l h = omega arith
    past (suc (suc j)) l h = get_or-replicate 506 j 0 0 (omega arith)

module _ (tables : List ℕ) (e : length tables ≡ 256) where
  body_length : length (tables ++ replicate 252 0) ≡ 508
  body_length = simp (length-append, length-replicate) (omega arith)

  pub length-setting : length (setting_block tables) ≡ 512
  unfolding setting_block
  length-setting = length-sealed _ body_length

  pub setting-right : RightCheck (setting_block tables)
  unfolding setting_block
  setting-right = sealed-right _ body_length

  pub setting-byte : (j : ℕ) → j < 256 → get_or (setting_block tables) j 0 ≡ get_or tables j 0
  unfolding setting_block
  setting-byte j h = sealed-byte _ body_length j (omega arith) ∙ get_or-append tables _ 0 j (omega arith)

  setting-past : (j : ℕ) → 256 ≤ j → j < 508 → get_or (setting_block tables) j 0 ≡ 0
  unfolding setting_block
  setting-past j l h =
      let k : length tables + (j - 256) ≡ j = omega arith in
      sealed-byte _ body_length j h
      ∙ ap (λ n. get_or (tables ++ replicate 252 0) n 0) (sym k)
      ∙ get_or-append-add tables (replicate 252 0) (j - 256) 0
      ∙ get_or-replicate 252 (j - 256) 0 0 (omega arith)

  pub setting-setting : {n m : ℕ} → Tables n m tables → SettingBlock n m (setting_block tables)
  unfolding Zeros
  setting-setting {n} {m} t =
      record {
        tables = tables-same n m tables (setting_block tables) (λ j h. sym (setting-byte j h)) t;
        rest = setting-past;
      }

  pub setting-tables : take 256 (setting_block tables) ≡ tables
  setting-tables =
      let l : length (take 256 (setting_block tables)) ≡ 256 = length-take-le 256 (setting_block tables) (rw length-setting (lit≤ tt)) in
      ext_get_or 0 _ _ (l ∙ sym e)
      (λ j h. get_or-take 256 (setting_block tables) j 0 (rw l at h) ∙ setting-byte j (rw l at h))
