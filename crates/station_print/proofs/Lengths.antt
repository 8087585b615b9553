-- How long the printed lines are, where the shift has at most 2,097,152 bytes: its indexes and its line numbers have at most seven digits. Piece by piece.
use Rattle.std.specs.Prelude.{Option, Some, None}
use Rattle.std.specs.Option.{unwrap_or}
use mathlib.Core.Path.{◌≡◌, refl, sym, subst, ap}
use mathlib.Core.Logic.{inl, inr}
use mathlib.Core.Bool.{Bool, true, false}
use mathlib.Core.List.{List, [], ◌∷◌, ◌++◌}
use Prim.Native.Nat.{ℕ, ◌*◌, suc, ◌≤◌, ◌<◌}
use native.Mathlib.Omega.{arith}
use lib.ListN.{length, length-append}
use Rattle.ground.specs.Text.{bytes}
use Rattle.ground.proofs.Bools.{lt_or_ge}
use Rattle.knowledge_acts.specs.Acts.{act_of}
use Rattle.knowledge_acts.specs.declared.act.Act.TheVariants.{Set, Look}
use Rattle.print_room.specs.Decimal.{decimal}
use Rattle.print_room.proofs.Decimals.{decimal-length}
use Rattle.sheet_words.specs.Words.{split, newline}
use Rattle.sheet_words.proofs.Split.{split-length}
use Rattle.station.specs.Shift.{RecordFault, no_record, not_allowed, disagrees, act_byte, seen_byte}
use Rattle.station.specs.declared.record.Running.{Running}
use Rattle.station_text.specs.Records.{is_record, words_of, record_text}
use Rattle.station_text.specs.Meaning.{is_text, lines_bytes, line_of}
use Rattle.station_text.proofs.Theorems.{line_gives, line-none}
use Rattle.station_print.specs.Settings.{setting_names}
use Rattle.station_print.specs.Faults.{place_text, record_words, fault_numbered, why_text, fault_text}
use Rattle.station_print.specs.Printed.{done_line, now_line, reached_text, stopped_text}
use Rattle.station_print.proofs.SettingsLaws.{names-length, words_length}
use Rattle.station_print.proofs.FaultLaws.{place-bytes, place-line, record_said, record_unsaid}
use Rattle.knowledge_acts.specs.declared.act.Act.{Act}

-- ---- what was reached

done-length : (count : ℕ) → count ≤ 1048576 → length (done_line count) ≤ 13
done-length count h = omega (arith, length-append (bytes "done " ++ decimal count) (10 ∷ []), decimal-length 6 count (omega arith))

now_length : (n v : ℕ) → n ≤ 7 → length (now_line n v) ≤ 25
now_length n v h = omega (arith, length-append (bytes "now " ++ setting_names n v) (10 ∷ []), names-length n v h)

pub reached-length : (n : ℕ) (running : Running) → n ≤ 7 → running.count ≤ 1048576 → length (reached_text n running) ≤ 38
unfolding reached_text
reached-length n running h k =
    omega (
      arith,
      length-append (done_line running.count) (now_line n running.present.0),
      done-length running.count k,
      now_length n running.present.0 h,
    )

-- ---- the line of an act at fault

-- a text has no more lines than bytes
line-most : (shift : List ℕ) (k : ℕ) → unwrap_or (line_of 1 k (split newline shift)) 0 ≤ suc (length shift)
line-most shift k = elim (lt_or_ge (2 * k) (length (lines_bytes (split newline shift)))) [
  | inl h ↦ (let g = line_gives shift k h in omega (arith, ap (λ (n : Option ℕ). unwrap_or n 0) g.1, g.2.number, g.2.there, split-length newline shift))
  | inr h ↦ omega (arith, ap (λ (n : Option ℕ). unwrap_or n 0) (line-none shift k h))
]

place-length : (shift : List ℕ) (index : ℕ) → length shift ≤ 2097152 → index ≤ 1048576 → length (place_text shift index) ≤ 25
place-length shift index h k = by_form (is_text shift) refl
  where
    by_form : (b : Bool) → is_text shift ≡ b → length (place_text shift index) ≤ 25
    by_form false e = subst (λ (t : List ℕ). length t ≤ 25) (place-bytes shift index e) (omega (arith, decimal-length 6 index (omega arith)))
    by_form true e =
        let line = unwrap_or (line_of 1 index (split newline shift)) 0 in
        subst (λ (t : List ℕ). length t ≤ 25) (sym (place-line shift index e))
        (omega (
          arith,
          length-append (decimal index) (bytes ", line " ++ decimal line),
          decimal-length 6 index (omega arith),
          decimal-length 6 line (omega (arith, line-most shift index)),
        ))

words_most : (named : Option Act) (seen : ℕ) → length (words_of named seen) ≤ 10
words_most None seen = omega arith
words_most (Some (Set i q b)) seen = omega arith
words_most (Some (Look i q)) seen = omega arith

record_length : (byte seen : ℕ) → byte < 256 → seen < 256 → length (record_words byte seen) ≤ 13
unfolding record_text
record_length byte seen h k = by_form (is_record byte seen) refl
  where
    by_form : (b : Bool) → is_record byte seen ≡ b → length (record_words byte seen) ≤ 13
    by_form true e = subst (λ (t : List ℕ). length t ≤ 13) (sym (record_said byte seen e)) (omega (arith, words_most (act_of byte) seen))
    by_form false e =
        subst (λ (t : List ℕ). length t ≤ 13) (sym (record_unsaid byte seen e))
        (omega (arith, length-append (decimal byte) (32 ∷ decimal seen), decimal-length 2 byte (omega arith), decimal-length 2 seen (omega arith)))

why-length : (fault : RecordFault) (n v seen : ℕ) → n ≤ 7 → length (why_text fault n v seen) ≤ 70
why-length no_record n v seen h = omega arith
why-length not_allowed n v seen h = omega (arith, words_length n v h)
why-length disagrees n v seen h = omega (arith, words_length n v h)

module _ (shift : List ℕ) (index byte seen number n v : ℕ) (short : length shift ≤ 2097152) (early : index ≤ 1048576) (small : byte < 256) (little : seen < 256)
    (few : n ≤ 7) where
  abbrev why : List ℕ
  why = why_text (fault_numbered number) n v seen

  pub fault-length : length (fault_text shift index byte seen number n v) ≤ 113
  unfolding fault_text
  fault-length =
      omega (
        arith,
        length-append (place_text shift index ++ (bytes ", " ++ (record_words byte seen ++ (bytes ": " ++ why)))) (10 ∷ []),
        length-append (place_text shift index) (bytes ", " ++ (record_words byte seen ++ (bytes ": " ++ why))),
        length-append (record_words byte seen) (bytes ": " ++ why),
        place-length shift index short early,
        record_length byte seen small little,
        why-length (fault_numbered number) n v seen few,
      )

-- ---- both

pub stopped-length : (n : ℕ) (shift bytes : List ℕ) (code : ℕ) (running : Running) → n ≤ 7 → length shift ≤ 2097152 → running.count ≤ 1048576
    → act_byte bytes running.count < 256 → seen_byte bytes running.count < 256 → length (stopped_text n shift bytes code running) ≤ 151
unfolding stopped_text
stopped-length n shift bytes code running few short early small little =
    let k = running.count in
    let v = running.present.0 in
    omega (
      arith,
      length-append (reached_text n running) (fault_text shift k (act_byte bytes k) (seen_byte bytes k) code n v),
      reached-length n running few early,
      fault-length shift k (act_byte bytes k) (seen_byte bytes k) code n v short early small little few,
    )
