-- Each form of line but those of names, both ways: a line that passes its test is written as the grammar says, and a line so written passes it and reads back. The
-- first word is compared byte by byte; what follows stands at fixed places.
use mathlib.Core.Path.{◌≡◌, refl, sym, ap, ap₂, ◌∙◌}
use mathlib.Core.Logic.{inl, inr}
use mathlib.Core.List.{List, [], ◌∷◌, ◌++◌}
use mathlib.Core.Bool.{true}
use Prim.Native.Nat.{ℕ, suc, ◌+◌, ◌-◌, ◌≤◌, ◌<◌}
use native.Mathlib.Numerals.{add-one, add-two, add-three, add-four}
use native.Mathlib.Omega.{arith}
use lib.Dec.{T, eqb, eqb→eq}
use lib.ListN.{length, get_or, drop, drop_of_length-le, get_or-eq_default}
use lib.Seq.{drop-cons}
use Rattle.ground.specs.Text.{bytes}
use Rattle.ground.proofs.Bools.{T→true, and_left, and_right, lt_or_ge}
use Rattle.book_block.specs.declared.rule.Right.{Right}
use Rattle.book_block.specs.declared.rule.Right.TheVariants.{Look, Set}
use Rattle.sheet_words.specs.Words.{space, begins, among}
use Rattle.sheet_words.proofs.Split.{Clear}
use Rattle.sheet_words.proofs.NameForms.{five, among_in, among_out}
use Rattle.sheet_rules.specs.Rules.{Rule}
use Rattle.sheet_rules.specs.Forms.{is_setting, is_post, is_rule, rule_of, is_size, digit_at}
use Rattle.sheet_reading.specs.Grammar.{size_text, word, rule_line}

-- ---- a first word, and bytes at fixed places

pub begins-written : (w line : List ℕ) → T (begins w line) → line ≡ w ++ drop (length w) line
unfolding begins
begins-written [] line h = refl
begins-written (c ∷ w) [] h = absurd h
begins-written (c ∷ w) (d ∷ line) h =
    ap₂ ◌∷◌ (sym (eqb→eq c d (and_left (eqb c d) (begins w line) h))) (begins-written w line (and_right (eqb c d) (begins w line) h))

-- a byte that is not 0 is there
pub there : (s : List ℕ) (i : ℕ) → 0 < get_or s i 0 → i < length s
there s i h = elim (lt_or_ge i (length s)) [ inl l ↦ l | inr l ↦ absurd (let e = get_or-eq_default s 0 l in omega arith) ]

four_bytes : (k : ℕ) (s : List ℕ) → k + 3 < length s → drop k s ≡ get_or s k 0 ∷ get_or s (k + 1) 0 ∷ get_or s (k + 2) 0 ∷ get_or s (k + 3) 0 ∷ drop (k + 4) s
four_bytes k s h =
    rw (add-one, add-two, add-three, add-four)
    (drop-cons s k 0 (omega arith) ∙ ap (◌∷◌ (get_or s k 0))
    (drop-cons s (suc k) 0 (omega arith) ∙ ap (◌∷◌ (get_or s (suc k) 0))
    (drop-cons s (suc (suc k)) 0 (omega arith) ∙ ap (◌∷◌ (get_or s (suc (suc k)) 0))
    (drop-cons s (suc (suc (suc k))) 0 (omega arith)))))

-- ---- `size N M`

abbrev pub SizeFits : ℕ → ℕ → Type 0
SizeFits n m = (1 ≤ n) × (n ≤ 7) × (1 ≤ m) × (m ≤ 8)

pub size-written : (line : List ℕ) → T (is_size line) → SizeFits (digit_at line 5) (digit_at line 7) × (line ≡ size_text (digit_at line 5) (digit_at line 7))
unfolding is_size digit_at size_text
size-written line h =
    let parts = five (begins (bytes "size ") line) (eqb (length line) 8) (among 49 7 (get_or line 5 0)) (eqb (get_or line 6 0) space) (among 49 8 (get_or line 7 0)) h in
    let size : length line ≡ 8 = eqb→eq (length line) 8 parts.1 in
    let n = among_out 49 7 (get_or line 5 0) parts.2 in
    let m = among_out 49 8 (get_or line 7 0) parts.4 in
    let a : get_or line 5 0 ≡ 48 + (get_or line 5 0 - 48) = omega arith in
    let b : get_or line 7 0 ≡ 48 + (get_or line 7 0 - 48) = omega arith in (
      omega arith,
      begins-written (bytes "size ") line parts.0
          ∙ ap (◌++◌ (bytes "size "))
          (drop-cons line 5 0 (omega arith) ∙ ap₂ ◌∷◌ a
          (drop-cons line 6 0 (omega arith) ∙ ap₂ ◌∷◌ (eqb→eq (get_or line 6 0) space parts.3)
          (drop-cons line 7 0 (omega arith) ∙ ap₂ ◌∷◌ b (drop_of_length-le line {i = 8} (omega arith))))),
    )

pub size-read : (n m : ℕ) → SizeFits n m → T (is_size (size_text n m)) × (digit_at (size_text n m) 5 ≡ n) × (digit_at (size_text n m) 7 ≡ m)
unfolding is_size digit_at size_text begins
size-read n m h =
    let a = among_in 49 7 (48 + n) (omega arith) (omega arith) in
    let b = among_in 49 8 (48 + m) (omega arith) (omega arith) in
    (rw (T→true (among 49 7 (48 + n)) a) b, omega arith, omega arith)

pub size-clear : (n m : ℕ) → Clear 10 (size_text n m)
unfolding size_text
size-clear n m = omega arith

-- ---- `read P G F` and `write P G F`

pub rule-written : (right : Right) (n m : ℕ) (line : List ℕ) → T (is_rule (word right) n m line) →
    (let r : Rule = rule_of (word right) right line in (r.setting < n) × (r.post < m) × (line ≡ rule_line r))
unfolding is_rule rule_of rule_line is_setting is_post
rule-written right n m line h =
    let w : List ℕ = word right in
    let k : ℕ = length w in
    let parts = five (begins w line) (among 97 n (get_or line k 0)) (eqb (get_or line (k + 1) 0) space) (among 49 m (get_or line (k + 2) 0)) (eqb (get_or line (k + 3) 0) space) h in
    let i = among_out 97 n (get_or line k 0) parts.1 in
    let q = among_out 49 m (get_or line (k + 2) 0) parts.3 in
    let before = eqb→eq (get_or line (k + 1) 0) space parts.2 in
    let after = eqb→eq (get_or line (k + 3) 0) space parts.4 in (
      i.1,
      q.1,
      begins-written w line parts.0
          ∙ ap (◌++◌ w) (four_bytes k line (there line (k + 3) (omega arith)) ∙ ap₂ ◌∷◌ (sym i.0) (ap₂ ◌∷◌ before (ap₂ ◌∷◌ (sym q.0) (ap (λ (c : ℕ). c ∷ drop (k + 4) line) after)))),
    )

pub rule-read : (n m : ℕ) (r : Rule) → r.setting < n → r.post < m → T (is_rule (word r.right) n m (rule_line r)) × (rule_of (word r.right) r.right (rule_line r) ≡ r)
unfolding is_rule rule_of rule_line is_setting is_post word begins
rule-read n m r h k =
    let a = T→true (among 97 n (97 + r.setting)) (among_in 97 n (97 + r.setting) (omega arith) (omega arith)) in
    let b = T→true (among 49 m (49 + r.post)) (among_in 49 m (49 + r.post) (omega arith) (omega arith)) in
    by_right r.right r.setting r.post r.text a b
  where
    by_right : (right : Right) (i q : ℕ) (F : List ℕ) → among 97 n (97 + i) ≡ true → among 49 m (49 + q) ≡ true →
        (let line : List ℕ = rule_line (record { right = right; setting = i; post = q; text = F }) in
        T (is_rule (word right) n m line) × (rule_of (word right) right line ≡ record { right = right; setting = i; post = q; text = F }))
    by_right Look i q F a b = (rw (a, b) tt, ap₂ (λ (x y : ℕ). record { right = Look; setting = x; post = y; text = F }) (omega arith) (omega arith))
    by_right Set i q F a b = (rw (a, b) tt, ap₂ (λ (x y : ℕ). record { right = Set; setting = x; post = y; text = F }) (omega arith) (omega arith))

pub clear-append : (mark : ℕ) (p q : List ℕ) → Clear mark p → Clear mark q → Clear mark (p ++ q)
clear-append mark [] q h k = k
clear-append mark (c ∷ p) q h k = (h.0, clear-append mark p q h.1 k)

pub rule-clear : (r : Rule) → Clear 10 r.text → Clear 10 (rule_line r)
unfolding rule_line word
rule-clear r h =
    clear-append 10 (word r.right) _ (by_right r.right) (omega arith, (omega arith, (omega arith, (omega arith, h))))
  where
    by_right : (right : Right) → Clear 10 (word right)
    by_right Look = omega arith
    by_right Set = omega arith
