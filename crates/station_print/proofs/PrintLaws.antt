-- From what was found to what is told and printed: one law for each return.
use Rattle.std.specs.Prelude.{Option, Some, None, Result, Ok, Err}
use mathlib.Core.Path.{◌≡◌, refl, sym, ap, subst}
use mathlib.Core.Bool.{Bool, true, false}
use mathlib.Core.List.{List}
use Prim.Native.Nat.{ℕ, ◌≤◌, ◌<◌}
use native.Mathlib.Omega.{arith}
use lib.ListN.{length, take}
use borrow.Author.Tests.{lt-ltb, le-ltb}
use Rattle.refusal.specs.declared.Refusal.{Refusal}
use Rattle.refusal.specs.declared.Refusal.TheVariants.{SheetLength}
use Rattle.print_room.specs.Wrote.{Wrote}
use Rattle.print_answer.proofs.Fitted.{prints}
use Rattle.print_answer.proofs.Theorems.{fitted-length, prints-whole}
use Rattle.station.specs.Replay.{Replays}
use Rattle.station.specs.declared.record.Running.{Running}
use Rattle.station.specs.declared.shift.Replayed.{Replayed}
use Rattle.station.specs.declared.shift.Replayed.TheVariants.{Whole, Stopped}
use Rattle.station_text.specs.Meaning.{Meaning, refused, gives, refused_if, read_meaning, is_text, Tells}
use Rattle.station_text.proofs.Theorems.{taken-only, bytes_most}
use Rattle.station_print.specs.Start.{start_words, names_all, Starts}
use Rattle.station_print.specs.Printed.{replay_text}
use Rattle.station_print.specs.Prints.{meaning_as, shift_meaning, told_of, PrintsBytes, PrintsShift, PrintsStart}
use Rattle.station_print.specs.Inner.{Readable, NextRecord}
use Rattle.station_print.specs.declared.ReplayTold.{ReplayTold}
use Rattle.station_print.specs.declared.ReplayFault.{ReplayFault}
use Rattle.station_print.specs.declared.ReplayFault.TheVariants.{Start, Shift as OfShift}

-- ---- what comes of a shift's bytes

module _ {n : ℕ} {book : List ℕ} {start : ℕ} {shift bytes : List ℕ} where
  pub told-bytes : {old new : List ℕ} {count : ℕ} (answer : Result Replayed Refusal) → Replays book start bytes answer → Wrote old 0 (replay_text n shift bytes answer) new count
      → PrintsBytes n book start shift bytes old (told_of answer count) new
  told-bytes {count = count} answer r w = record { answer = answer; count = count; replays = r; printed = prints w; told = refl }

-- how many acts were done
module _ (book : List ℕ) (start : ℕ) (shift bytes : List ℕ) (readable : Readable shift bytes) (running : Running) where
  pub whole-count : Replays book start bytes (Ok (Whole running)) → running.count ≤ 1048576
  whole-count r = omega (arith, r.plays.0.there, readable.bytes_most)

  pub stopped-next : (why : Refusal) → Replays book start bytes (Ok (Stopped why running)) → NextRecord shift bytes running
  stopped-next why r = record { readable = readable; more = r.plays.1.more }

-- ---- a shift's text, read into a room

module _ (s : List ℕ) (told : Result ℕ Refusal) (room after : List ℕ) (reads : Tells (read_meaning s) told room after) where
  pub text-refused : (n : ℕ) (book : List ℕ) (start : ℕ) (old : List ℕ) (why : Refusal) → told ≡ Err why
      → PrintsShift n book start s (read_meaning s) old (Err (OfShift why)) old
  text-refused n book start old why e = by_meaning (read_meaning s) (subst (λ (t : Result ℕ Refusal). Tells (read_meaning s) t room after) e reads)
    where
      by_meaning : (o : Meaning) → Tells o (Err why) room after → PrintsShift n book start s o old (Err (OfShift why)) old
      by_meaning (refused r) h = (ap (λ (u : Refusal). Err (OfShift u)) h.0, refl)
      by_meaning (gives b) h = absurd h

  module _ (count : ℕ) (e : told ≡ Ok count) (size : length room ≡ 419430) where
    -- all of its bytes are in the room
    whole : (b : List ℕ) × (read_meaning s ≡ gives b) × (count ≤ length after) × (take count after ≡ b)
    whole = by_meaning (read_meaning s) refl (subst (λ (t : Result ℕ Refusal). Tells (read_meaning s) t room after) e reads)
      where
        by_meaning : (o : Meaning) → read_meaning s ≡ o → Tells o (Ok count) room after → (b : List ℕ) × (o ≡ gives b) × (count ≤ length after) × (take count after ≡ b)
        by_meaning (refused r) m h = absurd h
        by_meaning (gives b) m h =
            let most = bytes_most s b m in
            (b, refl, omega (arith, h.count, ap length h.room, fitted-length room b), prints-whole h (omega (arith, h.count)))

    pub count_fits : count ≤ length after
    count_fits = whole.2

    pub text-readable : Readable s (take count after)
    text-readable =
        let (b, m, fits, same) = whole in
        record { shift_most = (taken-only s b m).1; bytes_most = omega (arith, ap length same, bytes_most s b m) }

    -- so what comes of the bytes in the room is what comes of the text
    pub text-told : (n : ℕ) (book : List ℕ) (start : ℕ) (old : List ℕ) (r : Result ReplayTold ReplayFault) (new : List ℕ) → PrintsBytes n book start s (take count after) old r new
        → PrintsShift n book start s (read_meaning s) old r new
    text-told n book start old r new p =
        let (b, m, fits, same) = whole in
        subst (λ (o : Meaning). PrintsShift n book start s o old r new) (sym m) (subst (λ (t : List ℕ). PrintsBytes n book start s t old r new) same p)

-- ---- a shift, text or bytes

module _ (n : ℕ) (book : List ℕ) (start : ℕ) (shift old : List ℕ) (r : Result ReplayTold ReplayFault) (new : List ℕ) where
  as_text : (b : Bool) → is_text shift ≡ b → PrintsShift n book start shift (meaning_as b shift) old r new → PrintsShift n book start shift (shift_meaning shift) old r new
  unfolding shift_meaning
  as_text b e p = subst (λ (t : Bool). PrintsShift n book start shift (meaning_as t shift) old r new) (sym e) p

  pub shift_text : is_text shift ≡ true → PrintsShift n book start shift (read_meaning shift) old r new → PrintsShift n book start shift (shift_meaning shift) old r new
  shift_text e p = as_text true e p

  by_length : (b : Bool) {c : Bool} → b ≡ c → PrintsShift n book start shift (refused_if c SheetLength (gives shift)) old r new
      → PrintsShift n book start shift (refused_if b SheetLength (gives shift)) old r new
  by_length b e p = subst (λ (c : Bool). PrintsShift n book start shift (refused_if c SheetLength (gives shift)) old r new) (sym e) p

  module _ (e : is_text shift ≡ false) where
    pub shift_long : 2097152 < length shift → (r ≡ Err (OfShift SheetLength)) × (new ≡ old) → PrintsShift n book start shift (shift_meaning shift) old r new
    unfolding refused_if
    shift_long h p = as_text false e (by_length _ (lt-ltb 2097152 (length shift) h) p)

    pub shift_bytes : length shift ≤ 2097152 → PrintsBytes n book start shift shift old r new → PrintsShift n book start shift (shift_meaning shift) old r new
    unfolding refused_if
    shift_bytes h p = as_text false e (by_length _ (le-ltb 2097152 (length shift) h) p)

-- ---- a shift that begins where START says

module _ (n : ℕ) (book start shift old : List ℕ) (told : Option ℕ) (says : Starts n (names_all n (start_words start)) (start_words start) told) where
  abbrev Printed : Bool → Result ReplayTold ReplayFault → List ℕ → Type 0
  Printed test r new = PrintsStart n book test start shift old r new

  pub start_nothing : told ≡ None → Printed (names_all n (start_words start)) (Err Start) old
  start_nothing e = by_test (names_all n (start_words start)) (subst (Starts n (names_all n (start_words start)) (start_words start)) e says)
    where
      by_test : (b : Bool) → Starts n b (start_words start) None → Printed b (Err Start) old
      by_test true h = absurd h
      by_test false h = (refl, refl)

  pub start_settings : (v : ℕ) → told ≡ Some v → (r : Result ReplayTold ReplayFault) (new : List ℕ) → PrintsShift n book v shift (shift_meaning shift) old r new
      → Printed (names_all n (start_words start)) r new
  start_settings v e r new p = by_test (names_all n (start_words start)) (subst (Starts n (names_all n (start_words start)) (start_words start)) e says)
    where
      by_test : (b : Bool) → Starts n b (start_words start) (Some v) → Printed b r new
      by_test true h = (v, h, p)
      by_test false h = absurd h
