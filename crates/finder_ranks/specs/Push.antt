-- A push of the rank h from one state along one setting: what it asks for and what it leaves, and what its parts promise one another. For the
-- crate's own functions.
use Rattle.std.specs.Prelude.{◌≡◌, ◌⊎◌, List, Bool, true, false, not, ◌&&◌, ℕ, ◌^◌, ◌%◌, ◌≤◌, ◌<◌, eqb, get_or, set, length}
use Rattle.ground.specs.Digits.{digit, put}
use Rattle.knowledge_acts.specs.Seven.{after_set, after_look}
use Rattle.knowledge_acts.specs.Acts.{set_to, look_at}
use Rattle.finder_sides.specs.Sides.{now_side_number}
use Rattle.finder_ranks.specs.Ranks.{rank, May, HasLower}

-- what a push of the rank h from k is made with
pub record Pushing (n k h : ℕ) (t : List ℕ) : Type 0 where
  pub room : 7 ^ n ≤ length t
  pub low : rank t k < h
  pub high : h < 255

-- every entry stays, or was 255 and is h now, as an act allows it
pub record Grew (n : ℕ) (set look : List (List ℕ)) (h : ℕ) (old new : List ℕ) : Type 0 where
  pub same_length : length new ≡ length old
  pub beyond : (k : ℕ) → 7 ^ n ≤ k → rank new k ≡ rank old k
  pub each : (k : ℕ) → (rank new k ≡ rank old k) ⊎ ((rank old k ≡ 255) × (rank new k ≡ h) × HasLower n set look old k h)

-- no state from which a set of setting i leads to k is left without a rank
abbrev pub SetsDone : ℕ → List (List ℕ) → List ℕ → ℕ → ℕ → Type 0
SetsDone n set t k i = (p : ℕ) (b : Bool) → May set n p i → set_to p i b ≡ k → rank t p ≡ 255 → ⊥

-- and none from which a look at it leads to k and else to an entry below h
abbrev pub LooksDone : ℕ → List (List ℕ) → ℕ → List ℕ → ℕ → ℕ → Type 0
LooksDone n look h t k i =
    (p : ℕ) (b : Bool) → May look n p i → digit 7 p i ≡ 0 → look_at p i b ≡ k → rank t (look_at p i (not b)) < h → rank t p ≡ 255 → ⊥

-- what a push from k along setting i leaves
pub record PushedAlong (n : ℕ) (set look : List (List ℕ)) (h k i : ℕ) (old new : List ℕ) : Type 0 where
  pub grew : Grew n set look h old new
  pub sets : SetsDone n set new k i
  pub looks : LooksDone n look h new k i

-- ---- its parts

abbrev pub given : Bool → List ℕ → ℕ → ℕ → List ℕ
given true t k h = set t k h
given false t k h = t

-- the table after the rank h was offered to the state k, if this is so: k takes it where it has none
unfoldable pub after_offer : Bool → List ℕ → ℕ → ℕ → List ℕ
after_offer so t k h = given (so && eqb (get_or t k 0) 255) t k h

-- a state k of n settings but for its digit at setting i
pub record Spotted (n k i rest side seven three : ℕ) : Type 0 where
  pub few : n ≤ 7
  pub state : k < 7 ^ n
  pub setting : i < n
  pub rest_is : rest ≡ put 7 k i 0
  pub side_is : side ≡ now_side_number n (put 7 k i 0)
  pub seven_is : seven ≡ 7 ^ i
  pub three_is : three ≡ 3 ^ i

-- the digit after a set to the value that d does not tell: an odd digit tells false, an even one true, and 0 nothing
unfoldable pub other : ℕ → ℕ
other d = after_set d (eqb (d % 2) 1)

-- a set leads from digit e to digit d
abbrev pub SetsTo : ℕ → ℕ → Type 0
SetsTo e d = (b : Bool) × (after_set e b ≡ d)

-- d is one outcome of a look, and e the other
abbrev pub Beside : ℕ → ℕ → Type 0
Beside e d = (b : Bool) × (d ≡ after_look b) × (e ≡ after_look (not b))

-- what is left by a push to the state with the digit e at setting i, to all by sets of i, to all by looks at i
pub record Tried (n : ℕ) (set : List (List ℕ)) (h k i e : ℕ) (old new : List ℕ) : Type 0 where
  pub grew : (look : List (List ℕ)) → Grew n set look h old new
  pub taken : May set n (put 7 k i e) i → rank new (put 7 k i e) ≡ 255 → ⊥

pub record PushedSets (n : ℕ) (set : List (List ℕ)) (h k i : ℕ) (old new : List ℕ) : Type 0 where
  pub grew : (look : List (List ℕ)) → Grew n set look h old new
  pub sets : SetsDone n set new k i

pub record PushedLooks (n : ℕ) (look : List (List ℕ)) (h k i : ℕ) (old new : List ℕ) : Type 0 where
  pub grew : (set : List (List ℕ)) → Grew n set look h old new
  pub looks : LooksDone n look h new k i
