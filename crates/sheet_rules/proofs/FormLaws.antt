-- The form of each line, from its tests: a conjunction is what its parts are; and what a form shows of its bytes.
use mathlib.Core.Path.{◌≡◌, refl, sym, ap, ◌∙◌}
use mathlib.Core.Bool.{Bool, true, ◌&&◌, ◌||◌}
use mathlib.Core.List.{List}
use Prim.Native.Nat.{ℕ, ◌+◌, ◌-◌, ◌≤◌, ◌<◌}
use native.Mathlib.Omega.{arith}
use lib.Dec.{T, eqb, eqb→eq}
use lib.ListN.{length, get_or, get_or-eq_default}
use mathlib.Core.Logic.{inl, inr}
use Rattle.ground.specs.Text.{bytes}
use Rattle.ground.proofs.Bools.{and_left, and_right, true→T, lt_or_ge}
use Rattle.sheet_words.specs.Words.{begins, among, passed_over}
use Rattle.sheet_words.proofs.NameForms.{between}
use Rattle.sheet_rules.specs.Forms.{is_size, digit_at, is_setting, is_post, is_rule, is_of_rules}

-- ---- the size

pub size_by : (line : List ℕ) (a b c d e : Bool) → begins (bytes "size ") line ≡ a → eqb (length line) 8 ≡ b → among 49 7 (get_or line 5 0) ≡ c → eqb (get_or line 6 0) 32 ≡ d
    → among 49 8 (get_or line 7 0) ≡ e → is_size line ≡ (a && b && c && d && e)
unfolding is_size
size_by line a b c d e p q r s t = rw (p, q, r, s, t) refl

pub size_bounds : (line : List ℕ) → is_size line ≡ true → (49 ≤ get_or line 5 0) × (get_or line 5 0 < 56) × (49 ≤ get_or line 7 0) × (get_or line 7 0 < 57)
unfolding is_size
size_bounds line e =
    let a = begins (bytes "size ") line && eqb (length line) 8 in let n = among 49 7 (get_or line 5 0) in let s = eqb (get_or line 6 0) 32 in let m = among 49 8 (get_or line 7 0) in
    let t = true→T {a = a && n && s && m} e in
    let x = between 49 7 (get_or line 5 0) (and_right a n (and_left (a && n) s (and_left (a && n && s) m t))) in
    let y = between 49 8 (get_or line 7 0) (and_right (a && n && s) m t) in
    (x.0, x.1, y.0, y.1)

-- the number of a digit that was read
pub digit_of : (line : List ℕ) (i : ℕ) {x : ℕ} → x ≡ get_or line i 0 → x - 48 ≡ digit_at line i
unfolding digit_at
digit_of line i e = ap (λ (y : ℕ). y - 48) e

-- ---- a right

pub rule_by : (w : List ℕ) (n m : ℕ) (line : List ℕ) (a b c d e : Bool) → begins w line ≡ a → among 97 n (get_or line (length w) 0) ≡ b → eqb (get_or line (length w + 1) 0) 32 ≡ c
    → among 49 m (get_or line (length w + 2) 0) ≡ d → eqb (get_or line (length w + 3) 0) 32 ≡ e → is_rule w n m line ≡ (a && b && c && d && e)
unfolding is_rule is_setting is_post
rule_by w n m line a b c d e p q r s t = rw (p, q, r, s, t) refl

-- a byte that is there
pub inside : (line : List ℕ) (i : ℕ) → get_or line i 0 ≡ 32 → i < length line
inside line i e = elim (lt_or_ge i (length line)) [ inl h ↦ h | inr h ↦ absurd (let z : ◌≡◌ {A = ℕ} 0 32 = sym (get_or-eq_default line 0 h) ∙ e in omega arith) ]

pub record RuleBounds (w : List ℕ) (n m : ℕ) (line : List ℕ) : Type 0 where
  pub setting-least : 97 ≤ get_or line (length w) 0
  pub setting-most : get_or line (length w) 0 < 97 + n
  pub post-least : 49 ≤ get_or line (length w + 2) 0
  pub post-most : get_or line (length w + 2) 0 < 49 + m
  pub size : length w + 4 ≤ length line

pub rule_bounds : (w : List ℕ) (n m : ℕ) (line : List ℕ) → T (is_rule w n m line) → RuleBounds w n m line
unfolding is_rule is_setting is_post
rule_bounds w n m line t =
    let b = begins w line in let p = among 97 n (get_or line (length w) 0) in let s = eqb (get_or line (length w + 1) 0) 32 in
    let g = among 49 m (get_or line (length w + 2) 0) in let l = eqb (get_or line (length w + 3) 0) 32 in
    let x = between 97 n (get_or line (length w) 0) (and_right b p (and_left (b && p) s (and_left (b && p && s) g (and_left (b && p && s && g) l t)))) in
    let y = between 49 m (get_or line (length w + 2) 0) (and_right (b && p && s) g (and_left (b && p && s && g) l t)) in
    let z = inside line (length w + 3) (eqb→eq (get_or line (length w + 3) 0) 32 (and_right (b && p && s && g) l t)) in
    record { setting-least = x.0; setting-most = x.1; post-least = y.0; post-most = y.1; size = omega arith }

-- ---- a line after the size

pub of_rules_by : (passes : Bool) (n m : ℕ) (line : List ℕ) (a b c : Bool) → (passes && passed_over line) ≡ a → is_rule (bytes "read ") n m line ≡ b → is_rule (bytes "write ") n m line ≡ c
    → is_of_rules passes n m line ≡ (a || b || c)
unfolding is_of_rules
of_rules_by passes n m line a b c p q r = rw (p, q, r) refl
