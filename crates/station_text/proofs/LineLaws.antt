-- One line of a shift's text, from its tests: each definition is what its tests make of it.
use mathlib.Core.Path.{◌≡◌, refl}
use mathlib.Core.Bool.{Bool, true, false, ◌||◌, cond}
use mathlib.Core.List.{List, [], ◌∷◌}
use Prim.Native.Nat.{ℕ, ◌*◌, ◌-◌, ◌≤◌}
use native.Mathlib.Omega.{arith}
use lib.ListN.{length, get_or}
use Rattle.knowledge_acts.specs.Acts.{plan_byte}
use Rattle.sheet_words.specs.Words.{passed_over}
use Rattle.station_text.specs.Lines.{is_look, is_set, gives_record, records_in, is_line, look_of, set_of, line_act, line_seen, line_record}

module _ (line : List ℕ) where
  pub gives_by : (a b : Bool) → is_look line ≡ a → is_set line ≡ b → gives_record line ≡ (a || b)
  unfolding gives_record
  gives_by a b x y = rw (x, y) refl

  pub line_by : (a b : Bool) → passed_over line ≡ a → gives_record line ≡ b → is_line line ≡ (a || b)
  unfolding is_line
  line_by a b x y = rw (x, y) refl

  pub given-line : gives_record line ≡ true → is_line line ≡ true
  given-line e = by_test (passed_over line) refl
    where
      by_test : (a : Bool) → passed_over line ≡ a → is_line line ≡ true
      by_test true x = line_by true _ x refl
      by_test false x = line_by false true x e

  pub act_by : (a : Bool) → is_look line ≡ a → line_act line ≡ cond a (plan_byte (look_of line)) (plan_byte (set_of line))
  unfolding line_act
  act_by a x = rw x refl

  pub seen_by : (a : Bool) → is_look line ≡ a → line_seen line ≡ cond a (get_or line 9 0 - 48) 0
  unfolding line_seen
  seen_by a x = rw x refl

  pub record_by : (a : Bool) → gives_record line ≡ a → line_record line ≡ cond a (line_act line ∷ line_seen line ∷ []) []
  unfolding line_record
  record_by a x = rw x refl

  pub records_by : (a : Bool) → gives_record line ≡ a → records_in line ≡ cond a 1 0
  unfolding records_in
  records_by a x = rw x refl

  -- it gives two bytes for each of its records, and at most one of those
  pub record_length : (length (line_record line) ≡ 2 * records_in line) × (records_in line ≤ 1)
  record_length = by_test (gives_record line) refl
    where
      by_test : (a : Bool) → gives_record line ≡ a → (length (line_record line) ≡ 2 * records_in line) × (records_in line ≤ 1)
      by_test true e = rw (record_by true e, records_by true e) (refl, omega arith)
      by_test false e = rw (record_by false e, records_by false e) (refl, omega arith)
