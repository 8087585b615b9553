-- A round, part by part: a visit goes setting by setting, and two neighbouring parts that were swept are one.
use mathlib.Core.Path.{◌≡◌, refl, sym, ap, ◌∙◌, subst}
use mathlib.Core.Logic.{inl, inr}
use mathlib.Core.List.{List}
use mathlib.Core.Bool.{true, false}
use Prim.Native.Nat.{ℕ, ◌+◌, ◌-◌, ◌≤◌, ◌<◌}
use native.Mathlib.Omega.{arith}
use mir.Val.{bool_byte}
use lib.Dec.{eqb}
use lib.ListN.{length, get_or, take, drop}
use Rattle.std.proofs.lemmas.List.{get_or-take, get_or-drop, length-take, length-drop}
use borrow.Author.Tests.{eq-eqb}
use Rattle.ground.proofs.Bools.{lt_or_ge}
use Rattle.finder_ranks.specs.Ranks.{rank}
use Rattle.finder_ranks.specs.Push.{Grew, SetsDone, LooksDone, PushedAlong}
use Rattle.finder_ranks.specs.Round.{Pushed, Visited, Sweeping, Bare, Swept}
use Rattle.finder_ranks.proofs.Grown.{same, back, further, sets_stay, looks_stay}

-- what was pushed stays so as the table grows
pushed_stays : {n h : ℕ} {set look : List (List ℕ)} {old new : List ℕ} → Grew n set look h old new → h < 255 → (k m : ℕ)
    → Pushed n set look h k m old → Pushed n set look h k m new
pushed_stays g l k m f = record {
  sets = λ i b. sets_stay g l k i (f.sets i b);
  looks = λ i b. looks_stay g l k i (f.looks i b);
}

-- a number below m + 1 is below m or is m
below-one-more : {A : Type 0} (i m : ℕ) → i < m + 1 → (i < m → A) → (i ≡ m → A) → A
below-one-more i m l f g = elim (lt_or_ge i m) [ inl x ↦ f x | inr x ↦ g (omega arith) ]

-- a test that failed says nothing
not_so : {A : Type 0} → false ≡ true → A
not_so e = let z : ◌≡◌ {A = ℕ} 0 1 = ap bool_byte e in absurd (omega arith)

-- a part in which the rank is not found
pub bare_part : (r from to : ℕ) (t : List ℕ) → from ≤ to → to ≤ length t
    → ((k d : ℕ) → 0 ≤ k → k < length (take (to - from) (drop from t)) → eqb (get_or (take (to - from) (drop from t)) k d) r ≡ false) → Bare r from to t
bare_part r from to t up fits f k a b e =
    let here : get_or (take (to - from) (drop from t)) (k - from) 0 ≡ r =
    get_or-take (to - from) (drop from t) (k - from) 0 (omega arith) ∙ get_or-drop from t (k - from) 0 ∙ ap (λ (x : ℕ). get_or t x 0) (omega arith) ∙ e in
    not_so (sym (f (k - from) 0 (omega arith) (omega (arith, length-take (to - from) (drop from t), length-drop from t))) ∙ eq-eqb _ r here)

module _ {n : ℕ} {set look : List (List ℕ)} where
  pub visit_more : {h k m : ℕ} {a b c : List ℕ} → h < 255 → Visited n set look h k m a b → PushedAlong n set look h k m b c
      → Visited n set look h k (m + 1) a c
  visit_more {h} {k} {m} {c = c} l v p = record {
    grew = further l v.grew p.grew;
    pushed = record {
      sets = λ i x. below-one-more i m x
          (λ y. sets_stay p.grew l k i (v.pushed.sets i y))
          (λ e. subst (λ (j : ℕ). SetsDone n set c k j) (sym e) p.sets);
      looks = λ i x. below-one-more i m x
          (λ y. looks_stay p.grew l k i (v.pushed.looks i y))
          (λ e. subst (λ (j : ℕ). LooksDone n look h c k j) (sym e) p.looks);
    };
  }

  pub sweeping_on : {h : ℕ} {a b : List ℕ} → Sweeping n h a → Grew n set look h a b → Sweeping n h b
  sweeping_on s g = record { few = s.few; room = omega (arith, s.room, g.same_length); low = s.low; high = s.high }

  -- a part with no entry of rank h - 1
  pub swept_bare : {h from to : ℕ} {t : List ℕ} → from ≤ to → 0 < h → Bare (h - 1) from to t → Swept n set look h from to t t 0
  swept_bare {h} {t = t} l z f = record {
    grew = same h t;
    pushed = λ k a b e. absurd (f k a b (omega arith));
    few = omega arith;
    still = λ e. refl;
    none = λ e k a b q. f k a b (omega arith);
  }

  -- all states are passed
  pub swept_all : {h from to end r : ℕ} {a b : List ℕ} → to ≡ end → Swept n set look h from to a b r → Swept n set look h from end a b r
  swept_all {h} {from} {r = r} {a} {b} e s = subst (λ (x : ℕ). Swept n set look h from x a b r) e s

  -- two parts
  pub swept_on : {h from mid to r q : ℕ} {a b c : List ℕ} → h < 255 → Swept n set look h from mid a b r → Swept n set look h mid to b c q
      → Swept n set look h from to a c (r + q)
  swept_on {h} {from} {mid} {to} {r} {q} {a} {b} {c} l f g = record {
    grew = further l f.grew g.grew;
    pushed = λ k x y e. elim (lt_or_ge k mid) [
      | inl m ↦ pushed_stays g.grew l k n (f.pushed k x m (earlier k e))
      | inr m ↦ g.pushed k m y e
    ];
    few = omega (arith, f.few, g.few);
    still = λ z. g.still (omega arith) ∙ f.still (omega arith);
    none = λ z k x y e. elim (lt_or_ge k mid) [
      | inl m ↦ f.none (omega arith) k x m (earlier k e)
      | inr m ↦ g.none (omega arith) k m y e
    ];
  }
    where
      earlier : (k : ℕ) → rank c k + 1 ≡ h → rank b k + 1 ≡ h
      earlier k e = omega (arith, e, back g.grew k (omega arith))
