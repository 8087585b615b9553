-- A line, a byte at a time: the digits that it begins with and the form that it has, by what is left from a place on. Then the whole line, from its tests.
use mathlib.Core.Path.{◌≡◌, refl, ap, ◌∙◌}
use mathlib.Core.Bool.{Bool, true, false, ◌&&◌, ◌||◌, cond}
use mathlib.Core.List.{List, [], ◌∷◌}
use Prim.Native.Nat.{ℕ, suc, ◌+◌, ◌≤◌}
use native.Mathlib.Omega.{arith}
use lib.ListN.{length, drop}
use lib.Dec.{eqb, ltb}
use Rattle.std.specs.List.{prefix_len, list_all, zip}
use Rattle.ground.specs.Text.{bytes}
use Rattle.knowledge_acts.specs.Acts.{plan_byte}
use Rattle.sheet_words.specs.Words.{begins, among}
use Rattle.plancheck_text.specs.Lines.{digit_count, is_number, is_reach_line, stands_for, has_form, is_stop, is_look, is_set, look_of, set_of, words_byte, after_depth, is_plan_line}

-- ---- digits

add-one-left : (n : ℕ) → 1 + n ≡ suc n
add-one-left n = omega arith

pub digits_first : (s : List ℕ) → prefix_len (λ c. among 48 10 c) s ≡ digit_count s
unfolding digit_count
digits_first [] = refl
digits_first (c ∷ s) = ap (λ (n : ℕ). cond (among 48 10 c) n 0) (add-one-left (prefix_len (λ c. among 48 10 c) s) ∙ ap suc (digits_first s))

pub digits_most : (s : List ℕ) → digit_count s ≤ length s
unfolding digit_count
digits_most [] = omega arith
digits_most (c ∷ s) = by_test (among 48 10 c) (digits_most s)
  where
    by_test : (b : Bool) → digit_count s ≤ length s → cond b (suc (digit_count s)) 0 ≤ suc (length s)
    by_test true h = omega arith
    by_test false h = omega arith

pub number_by : (s : List ℕ) (a b : Bool) → ltb 0 (length s) ≡ a → eqb (digit_count s) (length s) ≡ b → is_number s ≡ (a && b)
unfolding is_number
number_by s a b x y = rw (x, y) refl

pub reach_by : (line : List ℕ) (a b : Bool) → begins (bytes "reach ") line ≡ a → is_number (drop 6 line) ≡ b → is_reach_line line ≡ (a && b)
unfolding is_reach_line
reach_by line a b x y = rw (x, y) refl

-- ---- forms

pub stands_by : (sign c : ℕ) (p g v : Bool) → eqb sign 80 ≡ p → eqb sign 71 ≡ g → eqb sign 86 ≡ v
    → stands_for sign c ≡ cond p (among 97 7 c) (cond g (among 49 8 c) (cond v (among 48 2 c) (eqb sign c)))
unfolding stands_for
stands_by sign c p g v x y z = rw (x, y, z) refl

pub form_lengths : (form s : List ℕ) → (length form ≡ length s → ⊥) → has_form form s ≡ false
unfolding has_form
form_lengths [] [] h = absurd (h refl)
form_lengths [] (c ∷ s) h = refl
form_lengths (sign ∷ form) [] h = refl
form_lengths (sign ∷ form) (c ∷ s) h = go (stands_for sign c) (form_lengths form s (λ e. h (ap suc e)))
  where
    go : (b : Bool) {x : Bool} → x ≡ false → (b && x) ≡ false
    go true e = e
    go false e = refl

-- byte by byte, where they are as many
pub form_zipped : (form s : List ℕ) → length form ≡ length s → list_all (λ p. stands_for p.0 p.1) (zip form s) ≡ has_form form s
unfolding has_form
form_zipped [] [] e = refl
form_zipped [] (c ∷ s) e = absurd (omega arith)
form_zipped (sign ∷ form) [] e = absurd (omega arith)
form_zipped (sign ∷ form) (c ∷ s) e = ap (λ (b : Bool). stands_for sign c && b) (form_zipped form s (omega arith))

-- ---- what follows the depth

pub byte_by : (w : List ℕ) (a b : Bool) → is_stop w ≡ a → is_look w ≡ b → words_byte w ≡ cond a 0 (cond b (plan_byte (look_of w)) (plan_byte (set_of w)))
unfolding words_byte
byte_by w a b x y = rw (x, y) refl

-- ---- a line

pub plan-line_by : (line : List ℕ) (a b : Bool) → ltb 0 (digit_count line) ≡ a
    → (is_stop (after_depth line) || is_look (after_depth line) || is_set (after_depth line)) ≡ b → is_plan_line line ≡ (a && b)
unfolding is_plan_line
plan-line_by line a b x y = rw (x, y) refl
