-- The line of an act at fault, by the tests that its writing makes.
use Rattle.std.specs.Option.{unwrap_or}
use mathlib.Core.Path.{◌≡◌, sym, ap, ◌∙◌}
use mathlib.Core.Bool.{Bool, true, false, cond}
use mathlib.Core.List.{List, ◌∷◌, ◌++◌, append-nil}
use Prim.Native.Nat.{ℕ}
use borrow.Author.Tests.{ne_eqb}
use Rattle.ground.specs.Text.{bytes}
use Rattle.print_room.specs.Decimal.{decimal}
use Rattle.sheet_words.specs.Words.{split, newline}
use Rattle.station.specs.Shift.{no_record, not_allowed, disagrees}
use Rattle.station_text.specs.Records.{is_record, record_text}
use Rattle.station_text.specs.Meaning.{is_text, line_of}
use Rattle.station_print.specs.Faults.{line_said, place_text, record_words, fault_numbered}

-- ---- which act

module _ (shift : List ℕ) (index : ℕ) where
  abbrev line_number : ℕ
  line_number = unwrap_or (line_of 1 index (split newline shift)) 0

  pub place-bytes : is_text shift ≡ false → bytes "act " ++ decimal index ≡ place_text shift index
  unfolding place_text
  place-bytes e =
      ap (λ (t : List ℕ). bytes "act " ++ t) (sym (append-nil (decimal index)) ∙ ap (λ (b : Bool). decimal index ++ line_said b line_number) (sym e))

  pub place-line : is_text shift ≡ true → place_text shift index ≡ bytes "act " ++ (decimal index ++ (bytes ", line " ++ decimal line_number))
  unfolding place_text
  place-line e = ap (λ (b : Bool). bytes "act " ++ (decimal index ++ line_said b line_number)) e

-- ---- its record

module _ (byte seen : ℕ) where
  abbrev two_bytes : List ℕ
  two_bytes = bytes "bytes " ++ (decimal byte ++ 32 ∷ decimal seen)

  pub record_said : is_record byte seen ≡ true → record_words byte seen ≡ record_text byte seen
  unfolding record_words
  record_said e = ap (λ (b : Bool). cond b (record_text byte seen) two_bytes) e

  pub record_unsaid : is_record byte seen ≡ false → record_words byte seen ≡ two_bytes
  unfolding record_words
  record_unsaid e = ap (λ (b : Bool). cond b (record_text byte seen) two_bytes) e

-- ---- why it was not allowed

module _ (number : ℕ) where
  pub numbered_27 : number ≡ 27 → fault_numbered number ≡ no_record
  numbered_27 e = ap fault_numbered e

  pub numbered_28 : number ≡ 28 → fault_numbered number ≡ not_allowed
  numbered_28 e = ap fault_numbered e

  pub numbered_29 : (number ≡ 27 → ⊥) → (number ≡ 28 → ⊥) → fault_numbered number ≡ disagrees
  numbered_29 h k = rw (ne_eqb number 27 h, ne_eqb number 28 k)
