-- What a replay answers, from what the code found: the book's refusals, then 26, then the records.
use Rattle.std.specs.Prelude.{Ok, Err}
use mathlib.Core.Path.{◌≡◌, ap, ◌∙◌, subst}
use mathlib.Core.List.{List, [], ◌∷◌}
use Prim.Native.Nat.{ℕ, min, ◌^◌}
use native.Mathlib.Nat.{min-eq_left}
use Rattle.refusal.specs.declared.Refusal.{Refusal}
use Rattle.refusal.specs.declared.Refusal.TheVariants.{Shift}
use Rattle.refusal.specs.Order.{Row, when, First}
use Rattle.refusal.proofs.OrderLaws.{first-when, first-left, first-right}
use Rattle.book_sound.specs.Sound.{Sound}
use Rattle.book_sound.specs.Rows.{settings_of, book_rows}
use Rattle.book_sound.proofs.SoundLaws.{sound-settings, sound-clear}
use Rattle.station.specs.declared.shift.Replayed.{Replayed}
use Rattle.station.specs.Replay.{ShiftFits, replay_rows, Plays, Replays}

-- how many valuations a book's settings have, as code counts them
pub valuations_of : {book : List ℕ} {n m v : ℕ} → Sound book n m → v ≡ 2 ^ min n 7 → v ≡ 2 ^ n
valuations_of {n = n} s e = e ∙ ap (λ k. 2 ^ k) (min-eq_left s.settings.most)

module _ (book : List ℕ) (start : ℕ) (shift : List ℕ) where
  -- the rows after the book's own
  abbrev pub own_rows : List Row
  own_rows = when (ShiftFits (settings_of book) start shift → ⊥) Shift ∷ []

  pub book_refused : {r : Refusal} → First (book_rows book) r → Replays book start shift (Err r)
  unfolding replay_rows
  book_refused f = first-left own_rows f

  module _ {n m : ℕ} (s : Sound book n m) where
    pub shift_refused : (ShiftFits n start shift → ⊥) → Replays book start shift (Err Shift)
    unfolding replay_rows
    shift_refused f = first-right (sound-clear s) (first-when (λ h. f (subst (λ (n : ℕ). ShiftFits n start shift) (sound-settings s) h)))

    module _ (fits : ShiftFits n start shift) where
      pub replays : (answer : Replayed) → Plays n m book start shift answer → Replays book start shift (Ok answer)
      replays answer p = record { n = n; m = m; sound = s; fits = fits; plays = p }
