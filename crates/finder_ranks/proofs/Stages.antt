-- Round after round: before round h every entry is below h or 255, and no act would give an entry below h a lower one. A round
-- carries that to h + 1, and a round that found nothing, like the last one, ends in the certificate.
use mathlib.Core.Path.{◌≡◌, refl, sym, ap, ◌∙◌}
use mathlib.Core.Logic.{◌⊎◌, inl, inr}
use mathlib.Core.List.{List}
use mathlib.Core.Bool.{true, false}
use Prim.Native.Nat.{ℕ, ◌+◌, ◌-◌, ◌^◌, ◌≤◌, ◌<◌}
use native.Mathlib.Omega.{arith}
use lib.ListN.{length}
use Rattle.ground.proofs.Bools.{lt_or_ge}
use Rattle.knowledge_acts.specs.Acts.{set_to, look_at}
use Rattle.knowledge_acts.proofs.Outcomes.{set_below, look_below}
use Rattle.finder_ranks.specs.Ranks.{rank, HasLower, by_set, by_look}
use Rattle.finder_ranks.specs.Spread.{Ready, Spread}
use Rattle.finder_ranks.specs.Round.{Swept}
use Rattle.finder_ranks.proofs.Grown.{kept, lowers-kept, lowers_back}

-- before round h
pub record Stage (n : ℕ) (set look : List (List ℕ)) (h : ℕ) (old t : List ℕ) : Type 0 where
  pub few : n ≤ 7
  pub room : 7 ^ n ≤ length t
  pub same_length : length t ≡ length old
  pub beyond : (k : ℕ) → 7 ^ n ≤ k → rank t k ≡ rank old k
  -- marked means entry 0, now and at first
  pub marked : (k : ℕ) → (rank old k ≡ 0 → rank t k ≡ 0) × (rank t k ≡ 0 → rank old k ≡ 0)
  pub bounded : (k : ℕ) → k < 7 ^ n → (rank t k < h) ⊎ (rank t k ≡ 255)
  pub reached : (k : ℕ) → k < 7 ^ n → rank t k < 255 → (rank t k ≡ 0) ⊎ HasLower n set look t k (rank t k)
  pub least : (k : ℕ) → k < 7 ^ n → (g : ℕ) → g < h → HasLower n set look t k g → rank t k ≤ g

module _ {n : ℕ} {set look : List (List ℕ)} where
  -- nothing is below 0
  lowers-none : {t : List ℕ} {k : ℕ} → HasLower n set look t k 0 → ⊥
  lowers-none (by_set i b l m r) = absurd (omega arith)
  lowers-none (by_look i l m d r q) = absurd (omega arith)

  pub first : {t : List ℕ} → Ready n t → Stage n set look 1 t t
  first {t} r = record {
    few = r.few;
    room = r.room;
    same_length = refl;
    beyond = λ k l. refl;
    marked = λ k. (λ e. e, λ e. e);
    bounded = λ k l. elim (r.marks k l) [ inl e ↦ inl (omega arith) | inr e ↦ inr e ];
    reached = λ k l b. elim (r.marks k l) [ inl e ↦ inl e | inr e ↦ absurd (omega arith) ];
    least = λ k l g b w. let z : g ≡ 0 = omega arith in absurd (lowers-none (rw z at w));
  }

  -- the acts whose outcomes are all below h: all below h - 1, or one leads to a state of rank h - 1, which was pushed from
  split : {h k : ℕ} {a t : List ℕ} {r : ℕ} → k < 7 ^ n → Swept n set look h 0 (7 ^ n) a t r → HasLower n set look t k h
      → HasLower n set look t k (h - 1) ⊎ (rank t k ≡ 255 → ⊥)
  split {h} {k} {t = t} l s (by_set i b m may low) = elim (lt_or_ge (rank t (set_to k i b)) (h - 1)) [
    | inl x ↦ inl (by_set i b m may x)
    | inr x ↦ inr ((s.pushed (set_to k i b) (omega arith) (set_below k i b n l m) (omega arith)).sets i m k b may refl)
  ]
  split {h} {k} {t = t} l s (by_look i m may z low high) = elim (lt_or_ge (rank t (look_at k i false)) (h - 1)) [
    | inl x ↦ elim (lt_or_ge (rank t (look_at k i true)) (h - 1)) [
      | inl y ↦ inl (by_look i m may z x y)
      | inr y ↦ inr ((s.pushed (look_at k i true) (omega arith) (look_below k i true n l m) (omega arith)).looks i m k true may z refl low)
    ]
    | inr x ↦ inr ((s.pushed (look_at k i false) (omega arith) (look_below k i false n l m) (omega arith)).looks i m k false may z refl high)
  ]

  module _ {h r : ℕ} {old t new : List ℕ} (low : 0 < h) (high : h < 255) (g : Stage n set look h old t)
      (s : Swept n set look h 0 (7 ^ n) t new r) where
    next_bounded : (k : ℕ) → k < 7 ^ n → (rank new k < h + 1) ⊎ (rank new k ≡ 255)
    next_bounded k l = elim (s.grew.each k) [
      | inr w ↦ inl (omega (arith, w.1))
      | inl e ↦ elim (g.bounded k l) [ inl b ↦ inl (omega arith) | inr b ↦ inr (e ∙ b) ]
    ]

    next-reached : (k : ℕ) → k < 7 ^ n → rank new k < 255 → (rank new k ≡ 0) ⊎ HasLower n set look new k (rank new k)
    next-reached k l b = elim (s.grew.each k) [
      | inr w ↦ inr (rw w.1 (lowers-kept s.grew k h (omega arith) w.2))
      | inl e ↦ elim (g.reached k l (omega arith)) [
        | inl z ↦ inl (e ∙ z)
        | inr w ↦ inr (rw e (lowers-kept s.grew k (rank t k) (omega arith) w))
      ]
    ]

    -- below h nothing has changed
    least-below : (k : ℕ) → k < 7 ^ n → (b : ℕ) → b < h → HasLower n set look new k b → rank new k ≤ b
    least-below k l b m w =
        let x = g.least k l b m (lowers_back s.grew k b (omega arith) w) in
        omega (arith, x, kept s.grew k (omega arith))

    next-least : (k : ℕ) → k < 7 ^ n → (b : ℕ) → b < h + 1 → HasLower n set look new k b → rank new k ≤ b
    next-least k l b m w = elim (lt_or_ge b h) [
      | inl x ↦ least-below k l b x w
      | inr x ↦ (let e : b ≡ h = omega arith in elim (split l s (rw e at w)) [
        | inl v ↦ omega (arith, least-below k l (h - 1) (omega arith) v)
        | inr v ↦ elim (next_bounded k l) [ inl y ↦ omega arith | inr y ↦ absurd (v y) ]
      ])
    ]

    pub next : Stage n set look (h + 1) old new
    next = record {
      few = g.few;
      room = omega (arith, g.room, s.grew.same_length);
      same_length = s.grew.same_length ∙ g.same_length;
      beyond = λ k l. s.grew.beyond k l ∙ g.beyond k l;
      marked = λ k. elim (s.grew.each k) [
        | inl e ↦ (λ z. e ∙ (g.marked k).0 z, λ z. (g.marked k).1 (sym e ∙ z))
        | inr w ↦ (λ z. absurd (omega (arith, w.0, (g.marked k).0 z)), λ z. absurd (omega (arith, w.1)))
      ];
      bounded = next_bounded;
      reached = next-reached;
      least = next-least;
    }

  -- the certificate, once no act would give any entry a lower one
  finish : {h : ℕ} {old t : List ℕ} → h ≤ 255 → Stage n set look h old t
      → ((k : ℕ) → k < 7 ^ n → (b : ℕ) → b < 255 → HasLower n set look t k b → rank t k ≤ b) → Spread n set look old t
  finish {t = t} high g f = record {
    same_length = g.same_length;
    beyond = g.beyond;
    most = most;
    settled = λ k l e. (g.marked k).0 e;
    reached = λ k l b. elim (g.reached k l b) [ inl e ↦ inl ((g.marked k).1 e) | inr w ↦ inr w ];
    least = λ k l b w. elim (lt_or_ge b 255) [ inl x ↦ f k l b x w | inr x ↦ omega (arith, most k l) ];
  }
    where
      most : (k : ℕ) → k < 7 ^ n → rank t k ≤ 255
      most k l = elim (g.bounded k l) [ inl b ↦ omega arith | inr b ↦ omega arith ]

  -- after the last round
  pub last : {h : ℕ} {old t : List ℕ} → h ≡ 255 → Stage n set look h old t → Spread n set look old t
  last e g = finish (omega arith) g (λ k l b m w. g.least k l b (omega arith) w)

  -- outcomes are knowledge numbers of n settings too
  pub lowers-within : {s t : List ℕ} {k b h : ℕ} → k < 7 ^ n → ((x : ℕ) → x < 7 ^ n → rank s x < b → rank t x < h) → HasLower n set look s k b
      → HasLower n set look t k h
  lowers-within {k = k} l f (by_set i b m may r) = by_set i b m may (f _ (set_below k i b n l m) r)
  lowers-within {k = k} l f (by_look i m may d r q) = by_look i m may d (f _ (look_below k i false n l m) r) (f _ (look_below k i true n l m) q)

  -- after a round that found nothing: no entry is h - 1, so all ranks are below it
  pub still : {h r : ℕ} {old t new : List ℕ} → 0 < h → h < 255 → Stage n set look h old t → Swept n set look h 0 (7 ^ n) t new r → r ≡ 0
      → Spread n set look old new
  still {h} {t = t} {new = new} low high g s z = rw (s.still z) (finish (omega arith) g (λ k l b m w. elim (lt_or_ge b h) [
    | inl x ↦ g.least k l b x w
    | inr x ↦ omega (arith, g.least k l (h - 1) (omega arith) (lowers-within l (λ y v low. lower y v (omega arith)) w))
  ]))
    where
      same-entry : (x : ℕ) → rank new x ≡ rank t x
      same-entry x = ap (λ (l : List ℕ). rank l x) (s.still z)

      lower : (x : ℕ) → x < 7 ^ n → rank t x < 255 → rank t x < h - 1
      lower x l b = elim (g.bounded x l) [
        | inr y ↦ absurd (omega arith)
        | inl y ↦ elim (lt_or_ge (rank t x) (h - 1)) [
          | inl q ↦ q
          | inr q ↦ absurd (s.none z x (omega arith) l (omega (arith, same-entry x)))
        ]
      ]
