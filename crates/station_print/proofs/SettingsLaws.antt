-- How a setting is written: what stands before the first and before any other, and how long it is.
use mathlib.Core.Path.{◌≡◌, refl}
use mathlib.Core.Bool.{Bool, true, false}
use mathlib.Core.List.{List}
use Prim.Native.Nat.{ℕ, zero, suc, ◌≤◌}
use native.Mathlib.Omega.{arith}
use lib.ListN.{length}
use Rattle.ground.specs.Digits.{bit}
use Rattle.ground.specs.Text.{bytes}
use Rattle.book_sound.specs.Sound.{in_order}
use Rattle.station_print.specs.Settings.{between, verb, setting_name, setting_word, setting_names, setting_words}
use Rattle.station_print.proofs.Writing.{order_length}

pub between-later : (i : ℕ) (text : List ℕ) → (i ≡ 0 → ⊥) → between i text ≡ text
between-later zero text h = absurd (h refl)
between-later (suc i) text h = refl

pub verb-later : (i : ℕ) → (i ≡ 0 → ⊥) → verb i ≡ bytes " "
verb-later zero h = absurd (h refl)
verb-later (suc i) h = refl

-- ---- how long all settings are

first_name : (on : Bool) → length (setting_name 0 on) ≤ 2
first_name true = omega arith
first_name false = omega arith

other_name : (i : ℕ) (on : Bool) → length (setting_name (suc i) on) ≤ 3
other_name i true = omega arith
other_name i false = omega arith

pub names-length : (n v : ℕ) → n ≤ 7 → length (setting_names n v) ≤ 20
unfolding setting_names in_order
names-length zero v h = omega arith
names-length (suc n) v h =
    omega (arith, order_length (λ i. setting_name i (bit v i)) 2 3 (first_name (bit v 0)) (λ i. other_name i (bit v (suc i))) n)

first_word : (on : Bool) → length (setting_word 0 on) ≤ 8
first_word true = omega arith
first_word false = omega arith

other_word : (i : ℕ) (on : Bool) → length (setting_word (suc i) on) ≤ 7
other_word i true = omega arith
other_word i false = omega arith

pub words_length : (n v : ℕ) → n ≤ 7 → length (setting_words n v) ≤ 50
unfolding setting_words in_order
words_length zero v h = omega arith
words_length (suc n) v h =
    omega (arith, order_length (λ i. setting_word i (bit v i)) 8 7 (first_word (bit v 0)) (λ i. other_word i (bit v (suc i))) n)
