-- From layers to the answer: the first height at which a search from the start succeeds is the least of a working plan, since the start's entry bars
-- the lower ones; past the last height none works.
use mathlib.Core.Path.{◌≡◌, refl}
use mathlib.Core.Logic.{inl, inr}
use mathlib.Core.List.{List}
use mathlib.Core.Bool.{Bool, true, false}
use Prim.Native.Nat.{ℕ, suc, ◌+◌, ◌-◌, ◌^◌, ◌≤◌, ◌<◌}
use native.Mathlib.Numerals.{add-one}
use native.Mathlib.Omega.{arith}
use lib.Dec.{T}
use lib.ListN.{get_or}
use Rattle.ground.specs.Search.{Least}
use Rattle.ground.proofs.Bools.{lt_or_ge}
use Rattle.plan.specs.Plans.{System, Lawful, height}
use Rattle.plan.specs.Ranks.{Reach, Cannot}
use Rattle.plan.specs.Layers.{below}
use Rattle.plan.proofs.Layers.{sound, complete}
use Rattle.plan.proofs.Bound.{bound}
use Rattle.finder_plain.specs.Entries.{Bars, Searches, Searched}
use Rattle.finder_plain.specs.Gaps.{FindsGap}
use Rattle.finder_plain.proofs.EntryLaws.{barred, gap_cannot}

module _ {n : ℕ} {S : System} (law : Lawful n S) {entries : List ℕ} (bars : Bars n S entries) {k : ℕ} (state : k < 7 ^ n) where
  -- no plan has a height below the entry
  none-lower : (j : ℕ) → j < get_or entries k 0 → Reach S k j → ⊥
  none-lower j l r = barred law bars (suc j) k state (omega arith) (complete law r.0 (suc j) k r.1 (omega (arith, r.2)))

  pub first-least : (h : ℕ) → h ≤ get_or entries k 0 → T (below n S (suc h) k) → Least (Reach S k) h
  first-least h l t =
      let w = sound law (suc h) k t in
      record {
        here = (
          w.0,
          w.1,
          elim (lt_or_ge (height w.0) h) [
            | inl m ↦ absurd (none-lower (height w.0) (omega arith) (w.0, w.1, refl))
            | inr m ↦ omega (arith, w.2)
          ],
        );
        none_below = λ j m r. none-lower j (omega arith) r;
      }

  pub last_cannot : 2 ^ suc n - 1 ≤ get_or entries k 0 → Cannot S k
  last_cannot l p w = barred law bars (2 ^ suc n - 1) k state l (bound law (suc (height p)) k (complete law p (suc (height p)) k w (omega arith)))

-- ---- height after height: one law for each return

module _ {n : ℕ} {S : System} {k h : ℕ} {entries : List ℕ} (s : Searches n S k entries) (low : h ≤ get_or entries k 0) where
  pub last_no : {count : ℕ} → count ≡ 2 ^ suc n - 1 → count ≤ h → Cannot S k
  last_no e l = last_cannot s.law s.bars s.state (omega arith)

  module _ {new : List ℕ} {r : Bool} (f : Searched n S k (h + 1) entries new r) where
    pub height_yes : r ≡ true → Least (Reach S k) h
    height_yes e = first-least s.law s.bars s.state h low (rw add-one at (f.found e))

    pub height_gap : r ≡ false → {g : Bool} → FindsGap n new (h + 1) g → g ≡ true → Cannot S k
    height_gap e gap there = gap_cannot s.law f.bars s.state (f.failed e) (gap there)
