-- How the table grows by pushes of one rank: an entry that had a rank keeps it, and an entry below h had it before. So growing composes.
use mathlib.Core.Path.{◌≡◌, refl, sym, ap, ◌∙◌}
use mathlib.Core.Logic.{inl, inr}
use mathlib.Core.List.{List}
use mathlib.Core.Bool.{Bool, true, false, not, ◌&&◌}
use Prim.Native.Nat.{ℕ, ◌^◌, ◌≤◌, ◌<◌}
use native.Mathlib.Decide.{ℕ_discrete}
use native.Mathlib.Omega.{arith}
use lib.Dec.{T, eqb, eqb→eq, T_not}
use lib.ListN.{length, get_or, length-set}
use lib.Seq.{get_or-set_same, get_or-set_other}
use Rattle.ground.proofs.Bools.{and_left, and_right, decide, eq→eqb, T→true, T→false}
use Rattle.knowledge_acts.specs.Acts.{look_at}
use Rattle.finder_ranks.specs.Ranks.{rank, HasLower, by_set, by_look}
use Rattle.finder_ranks.specs.Push.{Grew, SetsDone, LooksDone}
use Rattle.finder_ranks.specs.Push.{given, after_offer}

module _ {n : ℕ} {set look : List (List ℕ)} where
  -- an act lowers as long as its outcomes stay below
  pub lowers_map : {s t : List ℕ} {k g h : ℕ} → ((x : ℕ) → rank s x < g → rank t x < h) → HasLower n set look s k g → HasLower n set look t k h
  lowers_map f (by_set i b l m r) = by_set i b l m (f _ r)
  lowers_map f (by_look i l m d r q) = by_look i l m d (f _ r) (f _ q)

  pub same : (h : ℕ) (t : List ℕ) → Grew n set look h t t
  same h t = record { same_length = refl; beyond = λ k l. refl; each = λ k. inl refl }

  module _ {h : ℕ} {old new : List ℕ} (g : Grew n set look h old new) where
    -- a rank is kept
    pub kept : (k : ℕ) → rank old k < 255 → rank new k ≡ rank old k
    kept k l = elim (g.each k) [ inl e ↦ e | inr w ↦ absurd (omega (arith, w.0)) ]

    -- an entry below h was there
    pub back : (k : ℕ) → rank new k < h → rank new k ≡ rank old k
    back k l = elim (g.each k) [ inl e ↦ e | inr w ↦ absurd (omega (arith, w.1)) ]

    -- what has no rank had none
    pub still-none : h < 255 → (k : ℕ) → rank new k ≡ 255 → rank old k ≡ 255
    still-none l k e = elim (g.each k) [ inl s ↦ sym s ∙ e | inr w ↦ w.0 ]

    pub lowers-kept : (k b : ℕ) → b ≤ 255 → HasLower n set look old k b → HasLower n set look new k b
    lowers-kept k b l w = lowers_map (λ x r. omega (arith, kept x (omega arith))) w

    pub lowers_back : (k b : ℕ) → b ≤ h → HasLower n set look new k b → HasLower n set look old k b
    lowers_back k b l w = lowers_map (λ x r. omega (arith, back x (omega arith))) w

    pub sets_stay : h < 255 → (k i : ℕ) → SetsDone n set old k i → SetsDone n set new k i
    sets_stay l k i f p b m e none = f p b m e (still-none l p none)

    pub looks_stay : h < 255 → (k i : ℕ) → LooksDone n look h old k i → LooksDone n look h new k i
    looks_stay l k i f p b m d e low none =
        f p b m d e (omega (arith, low, back (look_at p i (not b)) low)) (still-none l p none)

  -- two growths are one
  pub further : {h : ℕ} {a b c : List ℕ} → h < 255 → Grew n set look h a b → Grew n set look h b c → Grew n set look h a c
  further {h} {a} {b} {c} l f g = record {
    same_length = g.same_length ∙ f.same_length;
    beyond = λ k m. g.beyond k m ∙ f.beyond k m;
    each = λ k. elim (g.each k) [
      | inl e ↦ elim (f.each k) [ inl d ↦ inl (e ∙ d) | inr w ↦ inr (w.0, e ∙ w.1, w.2) ]
      | inr w ↦ inr (still-none f l k w.0, w.1, lowers_back f k h (omega arith) w.2)
    ];
  }

-- the one store: a state with no rank takes h
module _ {n : ℕ} {sets looks : List (List ℕ)} (t : List ℕ) (k h : ℕ) where
  given-grew : (so : Bool) → k < 7 ^ n → k < length t → (T so → (rank t k ≡ 255) × HasLower n sets looks t k h)
      → Grew n sets looks h t (given so t k h)
  given-grew false l m w = same h t
  given-grew true l m w = record {
    same_length = length-set t k h;
    beyond = λ j b. get_or-set_other t k j h 0 (λ e. absurd (omega arith));
    each = λ j. elim (ℕ_discrete j k) [
      | yes e ↦ inr (ap (λ (x : ℕ). rank t x) e ∙ (w tt).0, rw e (get_or-set_same t k h 0 m), rw e (w tt).1)
      | no e ↦ inl (get_or-set_other t k j h 0 e)
    ];
  }

  pub offer_grew : (so : Bool) → k < 7 ^ n → 7 ^ n ≤ length t → (T so → HasLower n sets looks t k h)
      → Grew n sets looks h t (after_offer so t k h)
  unfolding after_offer
  offer_grew so l m w =
      given-grew (so && eqb (get_or t k 0) 255) l (omega arith)
      (λ s. (eqb→eq (get_or t k 0) 255 (and_right so (eqb (get_or t k 0) 255) s), w (and_left so (eqb (get_or t k 0) 255) s)))

-- after an offer the state has a rank
pub offer_taken : (t : List ℕ) (k h : ℕ) (so : Bool) → T so → h < 255 → k < length t → rank (after_offer so t k h) k ≡ 255 → ⊥
unfolding after_offer
offer_taken t k h true s l m = elim (decide (eqb (get_or t k 0) 255)) [
  | inl y ↦ rw (T→true (eqb (get_or t k 0) 255) y) (λ e. absurd (omega (arith, e, get_or-set_same t k h 0 m)))
  | inr z ↦ rw (T→false (eqb (get_or t k 0) 255) z) (λ e. T_not (eqb (get_or t k 0) 255) z (eq→eqb e))
]
offer_taken t k h false s l m = elim s [ ]
