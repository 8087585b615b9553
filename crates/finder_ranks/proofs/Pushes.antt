-- A push from k along one setting: each state before k by an act on it was offered the rank, so none of them is left without.
use mathlib.Core.Path.{◌≡◌, refl, sym, ap, ◌∙◌, subst}
use mathlib.Core.Logic.{inl, inr}
use mathlib.Core.List.{List}
use mathlib.Core.Bool.{Bool, true, false, not}
use Prim.Native.Nat.{ℕ, ◌^◌, ◌≤◌, ◌<◌}
use native.Mathlib.Omega.{arith}
use lib.Dec.{ltb, ltb→lt, lt→ltb}
use Rattle.ground.specs.Digits.{digit, put}
use Rattle.ground.proofs.Digits.{digit_lt, put_same, put_lt, put-digit}
use Rattle.knowledge_acts.specs.Seven.{after_look}
use Rattle.knowledge_acts.specs.Acts.{look_at}
use Rattle.knowledge_acts.proofs.Seven.{set_known}
use Rattle.finder_sides.specs.Sides.{now_side_number}
use Rattle.finder_sides.specs.Tables.{entry}
use Rattle.finder_ranks.specs.Ranks.{rank, May, by_set, by_look}
use Rattle.finder_ranks.specs.Push.{Grew, SetsDone, Pushing, PushedAlong}
use Rattle.finder_ranks.specs.Push.{other, after_offer, SetsTo, Beside, Tried, PushedSets, PushedLooks}
use Rattle.finder_sides.proofs.Shown.{seven as pos}
use Rattle.finder_ranks.proofs.Grown.{same, kept, further, still-none, sets_stay, offer_grew, offer_taken}
use Rattle.finder_ranks.proofs.Before.{set_into, set_from, look_into, look_to, look_from, only_from}

-- what a push is made with lasts
pub pushing_on : {n k h : ℕ} {set look : List (List ℕ)} {old new : List ℕ} → Pushing n k h old → Grew n set look h old new → Pushing n k h new
pushing_on {k = k} p g = record {
  room = omega (arith, p.room, g.same_length);
  low = omega (arith, p.low, p.high, kept g k (omega (arith, p.low, p.high)));
  high = p.high;
}

-- every state before k by a set of i has one of the digits that lead to k's
sets-done : (n k i : ℕ) (set : List (List ℕ)) (t : List ℕ)
    → ((e : ℕ) → e < 7 → SetsTo e (digit 7 k i) → May set n (put 7 k i e) i → rank t (put 7 k i e) ≡ 255 → ⊥)
    → SetsDone n set t k i
sets-done n k i set t f p b m e none =
    let w = set_into k i p b e in
    f (digit 7 p i) (digit_lt pos p i) (b, w.1)
    (subst (λ (x : ℕ). May set n x i) (sym w.0) m)
    (ap (λ (x : ℕ). rank t x) w.0 ∙ none)

-- both outcomes, one of which was named first
both_low : (t : List ℕ) (p i h : ℕ) (b : Bool) → rank t (look_at p i b) < h → rank t (look_at p i (not b)) < h
    → (rank t (look_at p i false) < h) × (rank t (look_at p i true) < h)
both_low t p i h false x y = (x, y)
both_low t p i h true x y = (y, x)

look_same : (a b : Bool) → after_look a ≡ after_look b → a ≡ b
unfolding after_look
look_same false false e = refl
look_same false true e = absurd (omega arith)
look_same true false e = absurd (omega arith)
look_same true true e = refl

no_look : (b : Bool) (d : ℕ) → d ≡ after_look b → (d ≡ 3 → ⊥) → (d ≡ 6 → ⊥) → ⊥
unfolding after_look
no_look false d e f g = f e
no_look true d e f g = g e

module _ {n k i h : ℕ} (state : k < 7 ^ n) (setting : i < n) where
  -- the rank offered by a set
  pub try_set : {set : List (List ℕ)} {old new : List ℕ} (e side : ℕ) (so : Bool) → Pushing n k h old → e < 7 → SetsTo e (digit 7 k i)
      → side ≡ now_side_number n (put 7 k i e) → so ≡ ltb 0 (entry set i side) → new ≡ after_offer so old (put 7 k i e) h
      → Tried n set h k i e old new
  try_set {set} {old} {new} e side so p l w here test eq =
      let at : put 7 k i e < 7 ^ n = put_lt pos k i n e state setting l in
      record {
        grew = λ look. rw eq (offer_grew old (put 7 k i e) h so at p.room (λ t.
            by_set i w.0 setting
            (rw here at (ltb→lt 0 (entry set i side) (rw test at t)))
            (rw (set_from k i e w.0 l w.1) p.low)));
        taken = λ m. rw eq
            (offer_taken old (put 7 k i e) h so (rw (test, here) (lt→ltb 0 _ m)) p.high (omega (arith, at, p.room)));
      }

  pub sets-none : {set : List (List ℕ)} {t : List ℕ} → digit 7 k i ≡ 0 → PushedSets n set h k i t t
  sets-none {set} {t} z = record {
    grew = λ look. same h t;
    sets = sets-done n k i set t (λ e l w. absurd (set_known e w.0 l (w.1 ∙ z)));
  }

  -- k itself has a rank
  ranked : {t : List ℕ} → Pushing n k h t → rank t (put 7 k i (digit 7 k i)) ≡ 255 → ⊥
  ranked {t} p e = omega (arith, p.low, p.high, ap (λ (x : ℕ). rank t x) (put-digit pos k i), e)

  pub sets-one : {set : List (List ℕ)} {a b : List ℕ} (d : ℕ) {e : ℕ} → e ≡ other d → d ≡ digit 7 k i → Pushing n k h a → 3 ≤ d
      → Tried n set h k i e a b → PushedSets n set h k i a b
  sets-one {set} {b = b} d to is p m f = record {
    grew = f.grew;
    sets = sets-done n k i set b (λ e small w may none. elim (only_from d e w.0 (rw is (digit_lt pos k i)) small (w.1 ∙ sym is)) [
      | inl q ↦ ranked (pushing_on p (f.grew set)) (rw (q ∙ is) at none)
      | inr (inl q) ↦ f.taken (rw (q ∙ sym to) at may) (rw (q ∙ sym to) at none)
      | inr (inr q) ↦ absurd (omega (arith, q.1))
    ]);
  }

  pub sets-two : {set : List (List ℕ)} {a b c : List ℕ} (d : ℕ) {e : ℕ} → e ≡ other d → d ≡ digit 7 k i → Pushing n k h a
      → Tried n set h k i e a b → Tried n set h k i 0 b c → PushedSets n set h k i a c
  sets-two {set} {c = c} d to is p f o = record {
    grew = λ look. further p.high (f.grew look) (o.grew look);
    sets = sets-done n k i set c (λ e small w may none. elim (only_from d e w.0 (rw is (digit_lt pos k i)) small (w.1 ∙ sym is)) [
      | inl q ↦ ranked (pushing_on p (further p.high (f.grew set) (o.grew set))) (rw (q ∙ is) at none)
      | inr (inl q) ↦ f.taken (rw (q ∙ sym to) at may) (still-none (o.grew set) p.high _ (rw (q ∙ sym to) at none))
      | inr (inr q) ↦ o.taken (rw q.0 at may) (rw q.0 at none)
    ]);
  }

  -- the rank offered by a look
  pub try_look : {look : List (List ℕ)} {old new : List ℕ} (e side : ℕ) (so : Bool) → Pushing n k h old → Beside e (digit 7 k i)
      → rank old (put 7 k i e) < h → side ≡ now_side_number n (put 7 k i 0) → so ≡ ltb 0 (entry look i side)
      → new ≡ after_offer so old (put 7 k i 0) h → PushedLooks n look h k i old new
  try_look {look} {old} {new} e side so p w less here test eq =
      let at : put 7 k i 0 < 7 ^ n = put_lt pos k i n 0 state setting pos in
      let one : rank old (look_at (put 7 k i 0) i w.0) < h = rw (look_from k i w.0 w.1) p.low in
      let other : rank old (look_at (put 7 k i 0) i (not w.0)) < h = rw (look_to k i (not w.0), ← w.2) less in
      let lower = both_low old (put 7 k i 0) i h w.0 one other in
      record {
        grew = λ set. rw eq (offer_grew old (put 7 k i 0) h so at p.room (λ t.
            by_look i setting
            (rw here at (ltb→lt 0 (entry look i side) (rw test at t)))
            (put_same pos k i 0 pos) lower.0 lower.1));
        looks = λ q b m z into low.
            let v = (look_into k i q b z into).0 in
            rw (← v, eq)
            (offer_taken old (put 7 k i 0) h so (rw (test, here) (lt→ltb 0 _ (rw (← v) at m))) p.high (omega (arith, at, p.room)));
      }

  -- no rank is offered: the other outcome is not below h, or k's digit is no look's outcome
  pub look_high : {look : List (List ℕ)} {t : List ℕ} (e : ℕ) → Beside e (digit 7 k i) → h ≤ rank t (put 7 k i e) → PushedLooks n look h k i t t
  look_high {t = t} e w high = record {
    grew = λ set. same h t;
    looks = λ q b m z into low none.
        let v = look_into k i q b z into in
        let same-look : b ≡ w.0 = look_same b w.0 (sym v.1 ∙ w.1) in
        let other : look_at q i (not b) ≡ put 7 k i e =
        ap (λ (x : ℕ). look_at x i (not b)) (sym v.0) ∙ look_to k i (not b) ∙ ap (λ (x : ℕ). put 7 k i x) (ap (λ x. after_look (not x)) same-look ∙ sym w.2)
        in
        omega (arith, low, high, ap (λ (x : ℕ). rank t x) other);
  }

  pub looks-none : {look : List (List ℕ)} {t : List ℕ} → (digit 7 k i ≡ 3 → ⊥) → (digit 7 k i ≡ 6 → ⊥) → PushedLooks n look h k i t t
  looks-none {t = t} f g = record {
    grew = λ set. same h t;
    looks = λ q b m z into low none. no_look b (digit 7 k i) (look_into k i q b z into).1 f g;
  }

  -- sets and looks
  pub along : {set look : List (List ℕ)} {a b c : List ℕ} → h < 255 → PushedSets n set h k i a b → PushedLooks n look h k i b c
      → PushedAlong n set look h k i a c
  along {set} {look} l f g = record {
    grew = further l (f.grew look) (g.grew set);
    sets = sets_stay (g.grew set) l k i f.sets;
    looks = g.looks;
  }
