-- How a shift is read: the act byte stands first and what was seen second, records follow one another, and each act meets the settings that those before it
-- left. And what was reached is a valuation of the book's settings.
use mathlib.Core.Path.{◌≡◌, refl, ap, ◌∙◌}
use mathlib.Core.List.{List, [], ◌∷◌}
use Prim.Native.Nat.{ℕ, zero, suc, ◌+◌, ◌*◌, ◌^◌, ◌<◌}
use native.Mathlib.Omega.{arith}
use lib.ListN.{get_or}
use Rattle.ground.specs.Digits.{put}
use Rattle.knowledge_acts.specs.Acts.{act_of}
use Rattle.plan.specs.Runs.{change}
use Rattle.station.specs.declared.record.Running.{Running}
use Rattle.station.specs.Station.{leaves}
use Rattle.station.specs.Shift.{act_byte, seen_byte, settings_at, IsFaultless, Reached}
use Rattle.station.proofs.Laws.{left_lt, book_has}

module _ (c s : ℕ) (rest : List ℕ) where
  pub first_record : (act_byte (c ∷ s ∷ rest) 0 ≡ c) × (seen_byte (c ∷ s ∷ rest) 0 ≡ s)
  unfolding act_byte seen_byte
  first_record = (refl, refl)

  next_place : (k : ℕ) → (2 * suc k ≡ suc (suc (2 * k))) × (2 * suc k + 1 ≡ suc (suc (2 * k + 1)))
  next_place k = (omega arith, omega arith)

  pub later_record : (k : ℕ) → (act_byte (c ∷ s ∷ rest) (suc k) ≡ act_byte rest k) × (seen_byte (c ∷ s ∷ rest) (suc k) ≡ seen_byte rest k)
  unfolding act_byte seen_byte
  later_record k =
      (ap (λ i. get_or (c ∷ s ∷ rest) i 0) (next_place k).0, ap (λ i. get_or (c ∷ s ∷ rest) i 0) (next_place k).1)

  -- the rest of a shift is played on what the first act leaves
  pub settings-later : (v k : ℕ) → settings_at v (c ∷ s ∷ rest) (suc k) ≡ settings_at (leaves v (act_of c)) rest k
  unfolding settings_at
  settings-later v zero = ap (λ x. leaves v (act_of x)) first_record.0
  settings-later v (suc k) =
      ap (λ x. leaves x (act_of (act_byte (c ∷ s ∷ rest) (suc k)))) (settings-later v k)
      ∙ ap (λ x. leaves (settings_at (leaves v (act_of c)) rest k) (act_of x)) (later_record k).0

-- `set a 1 1`, `set b 1 1`, `set a 1 0` from all off: a on, both on, b on
pub three_sets : (settings_at 0 (57 ∷ 0 ∷ 65 ∷ 0 ∷ 1 ∷ 0 ∷ []) 1 ≡ 1) × (settings_at 0 (57 ∷ 0 ∷ 65 ∷ 0 ∷ 1 ∷ 0 ∷ []) 2 ≡ 3)
    × (settings_at 0 (57 ∷ 0 ∷ 65 ∷ 0 ∷ 1 ∷ 0 ∷ []) 3 ≡ 2)
unfolding settings_at act_byte act_of change put
three_sets = (refl, refl, refl)

-- ---- a valuation of n settings stays one

module _ (n m : ℕ) (book : List ℕ) (start : ℕ) (shift : List ℕ) (below : start < 2 ^ n) where
  pub settings-below : (k : ℕ) → ((j : ℕ) → j < k → IsFaultless n m book (settings_at start shift j) (act_of (act_byte shift j)) (seen_byte shift j))
      → settings_at start shift k < 2 ^ n
  unfolding settings_at
  settings-below zero f = below
  settings-below (suc k) f =
      let here = f k (omega arith) in
      rw here.is_record_case.names
      (left_lt (settings_at start shift k) n here.act_done (settings-below k (λ j l. f j (omega (arith, l)))) (book_has n m here.act_done here.is_record_case.of_book_case).0)

  pub reached-below : (running : Running) → Reached n m book start shift running → running.present.0 < 2 ^ n
  reached-below running r = rw r.left (settings-below running.count r.faultless)
