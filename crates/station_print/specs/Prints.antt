-- What `print` tells and leaves in the room, for any bytes as a book, as START and as a shift. In this order: the book's 6 to 9, START, the shift's 24 and 22, then
-- 26 and its records. What a refusal leaves in the room is what was there.
use Rattle.std.specs.Prelude.{◌≡◌, ◌⊎◌, Bool, true, false, List, ℕ, Result, Ok, Err}
use Rattle.refusal.specs.declared.Refusal.{Refusal}
use Rattle.refusal.specs.declared.Refusal.TheVariants.{SheetLength}
use Rattle.refusal.specs.Order.{First}
use Rattle.book_sound.specs.Sound.{Sound}
use Rattle.book_sound.specs.Rows.{book_rows}
use Rattle.print_answer.specs.Printed.{Prints}
use Rattle.station.specs.Replay.{Replays}
use Rattle.station.specs.declared.shift.Replayed.{Replayed}
use Rattle.station.specs.declared.shift.Replayed.TheVariants.{Whole, Stopped}
use Rattle.station_text.specs.Meaning.{Meaning, refused, gives, refused_if, too_long, read_meaning, is_text}
use Rattle.station_print.specs.Start.{start_words, names_all, StartIs}
use Rattle.station_print.specs.Printed.{replay_text}
use Rattle.station_print.specs.declared.ReplayTold.{ReplayTold}
use Rattle.station_print.specs.declared.ReplayTold.TheVariants.{Done, Stopped as AtFault}
use Rattle.station_print.specs.declared.ReplayFault.{ReplayFault}
use Rattle.station_print.specs.declared.ReplayFault.TheVariants.{Book, Start, Shift as OfShift}

-- "a shift is text where it begins with `look `, `set ` or `# ` [..], else bytes; [..] either has at most 2,097,152 bytes [..], else 24"
abbrev pub meaning_as : Bool → List ℕ → Meaning
meaning_as true shift = read_meaning shift
meaning_as false shift = refused_if (too_long shift) SheetLength (gives shift)

unfoldable pub shift_meaning : List ℕ → Meaning
shift_meaning shift = meaning_as (is_text shift) shift

-- what is told of a text with this many bytes
abbrev pub told_of : Result Replayed Refusal → ℕ → Result ReplayTold ReplayFault
told_of (Ok (Whole running)) count = Ok (Done count)
told_of (Ok (Stopped why running)) count = Ok (AtFault why count)
told_of (Err why) count = Err (OfShift why)

-- the bytes of a shift, run against the book from these settings on: what comes of it is printed
pub record PrintsBytes (n : ℕ) (book : List ℕ) (start : ℕ) (shift bytes old : List ℕ) (r : Result ReplayTold ReplayFault) (new : List ℕ) : Type 0 where
  pub answer : Result Replayed Refusal
  pub count : ℕ
  pub replays : Replays book start bytes answer
  pub printed : Prints old (replay_text n shift bytes answer) count new
  pub told : r ≡ told_of answer count

-- by what the shift means: 24, or 22 with its line; or what its bytes get
abbrev pub PrintsShift : ℕ → List ℕ → ℕ → List ℕ → Meaning → List ℕ → Result ReplayTold ReplayFault → List ℕ → Type 0
PrintsShift n book start shift (refused why) old r new = (r ≡ Err (OfShift why)) × (new ≡ old)
PrintsShift n book start shift (gives bytes) old r new = PrintsBytes n book start shift bytes old r new

-- by whether START names all settings
abbrev pub PrintsStart : ℕ → List ℕ → Bool → List ℕ → List ℕ → List ℕ → Result ReplayTold ReplayFault → List ℕ → Type 0
PrintsStart n book false start shift old r new = (r ≡ (Err Start)) × (new ≡ old)
PrintsStart n book true start shift old r new = (v : ℕ) × StartIs n (start_words start) v × PrintsShift n book v shift (shift_meaning shift) old r new

-- what `print` does: "the book's 6 to 9"; or, of a sound book of n settings, what START and the shift get
abbrev pub PrintsReplay : List ℕ → List ℕ → List ℕ → List ℕ → Result ReplayTold ReplayFault → List ℕ → Type 0
PrintsReplay book start shift old r new =
    ((why : Refusal) × First (book_rows book) why × (r ≡ Err (Book why)) × (new ≡ old))
    ⊎ ((n : ℕ) × (m : ℕ) × Sound book n m × PrintsStart n book (names_all n (start_words start)) start shift old r new)
