-- The laws of what fits and what is judged, for any side: from the test at every valuation, and at every setting.
use mathlib.Core.Path.{◌≡◌, refl, ap, ◌∙◌}
use mathlib.Core.Logic.{◌⊎◌, inl, inr}
use mathlib.Core.Bool.{Bool, true, false, not, ◌&&◌}
use mathlib.Core.List.{List}
use Prim.Native.Nat.{ℕ, ◌^◌, ◌≤◌, ◌<◌}
use native.Mathlib.Decide.{ℕ_discrete}
use native.Mathlib.Omega.{arith}
use lib.Dec.{T, leb}
use lib.ListN.{take}
use lib.Pow.{pow_mono}
use borrow.Author.Tests.{leb-true}
use Rattle.ground.specs.Digits.{bit}
use Rattle.ground.specs.Table.{truth}
use Rattle.ground.proofs.Bits.{same_bits}
use Rattle.ground.proofs.Bools.{and_in, and_left, and_right, both, decide, T_iff, T→true, T→false}
use Rattle.ground.proofs.Search.{all-at, all_intro, all_or, all_ext}
use Rattle.ground.proofs.Table.{truth-take}
use Rattle.knowledge_acts.specs.Seven.{unknown, told}
use Rattle.knowledge.specs.Fits.{agrees, fits, implies, is, always}

-- an implication of two tests
pub implies_in : (a b : Bool) → (T a → T b) → T (implies a b)
implies_in true b f = f tt
implies_in false b f = tt

pub implies_out : (a b : Bool) → T (implies a b) → T a → T b
implies_out true b h t = h
implies_out false b h t = elim t [ ]

implies_no : (a b : Bool) → T (not (implies a b)) → T a × T (not b)
implies_no true false h = (tt, tt)
implies_no true true h = absurd h
implies_no false b h = absurd h

-- what is not known agrees with either value; what is told agrees with itself alone
pub agrees-unknown : (b : Bool) → T (agrees unknown b)
unfolding agrees
agrees-unknown b = tt

pub agrees-told : (b : Bool) → T (agrees (told b) b)
unfolding agrees
agrees-told false = tt
agrees-told true = tt

pub agrees-only : (b c : Bool) → T (agrees (told b) c) → c ≡ b
unfolding agrees
agrees-only false false h = refl
agrees-only false true h = absurd h
agrees-only true false h = absurd h
agrees-only true true h = refl

module _ (n : ℕ) (side : ℕ → ℕ) where
  pub fits-at : (v : ℕ) → T (fits n side v) → (i : ℕ) → i < n → T (agrees (side i) (bit v i))
  unfolding fits
  fits-at v h i l = all-at n (λ i. agrees (side i) (bit v i)) h i l

  pub fits_intro : (v : ℕ) → ((i : ℕ) → i < n → T (agrees (side i) (bit v i))) → T (fits n side v)
  unfolding fits
  fits_intro v h = all_intro n (λ i. agrees (side i) (bit v i)) h

module _ (b : Bool) (n : ℕ) (side : ℕ → ℕ) (t : List ℕ) where
  pub always-at : T (always b n side t) → (v : ℕ) → v < 2 ^ n → T (fits n side v) → T (is b (truth t v))
  unfolding always
  always-at h v l f =
      implies_out (fits n side v) (is b (truth t v)) (all-at (2 ^ n) (λ v. implies (fits n side v) (is b (truth t v))) h v l) f

  pub always_intro : ((v : ℕ) → v < 2 ^ n → T (fits n side v) → T (is b (truth t v))) → T (always b n side t)
  unfolding always
  always_intro h =
      all_intro (2 ^ n) (λ v. implies (fits n side v) (is b (truth t v)))
      (λ v l. implies_in (fits n side v) (is b (truth t v)) (h v l))

  -- where the table has not the value b everywhere, it has another at a valuation that fits
  pub always_no : T (not (always b n side t)) → (v : ℕ) × (v < 2 ^ n) × T (fits n side v) × T (not (is b (truth t v)))
  unfolding always
  always_no h = elim (all_or (2 ^ n) (λ v. implies (fits n side v) (is b (truth t v)))) [
    | inl all_so ↦ both (always b n side t) all_so h
    | inr r ↦ (let c = implies_no (fits n side r.0) (is b (truth t r.0)) r.2 in (r.0, r.1, c.0, c.1))
  ]

-- a judgement reads the side at the n settings alone
pub fits_ext : (n : ℕ) (s u : ℕ → ℕ) (v : ℕ) → ((i : ℕ) → i < n → s i ≡ u i) → fits n s v ≡ fits n u v
unfolding fits
fits_ext n s u v same = all_ext n _ _ (λ i l. ap (λ (x : ℕ). agrees x (bit v i)) (same i l))

pub always_ext : (b : Bool) (n : ℕ) (s u : ℕ → ℕ) (t : List ℕ) → ((i : ℕ) → i < n → s i ≡ u i) → always b n s t ≡ always b n u t
unfolding always
always_ext b n s u t same =
    all_ext (2 ^ n) _ _ (λ v l. ap (λ (x : Bool). implies x (is b (truth t v))) (fits_ext n s u v same))

-- where more is told fewer valuations fit, and what was judged stays so
module _ (n : ℕ) (s u : ℕ → ℕ) (more : (i : ℕ) → i < n → (s i ≡ unknown) ⊎ (s i ≡ u i)) where
  pub fits_more : (v : ℕ) → T (fits n u v) → T (fits n s v)
  fits_more v h = fits_intro n s v (λ i l. elim (more i l) [
    | inl e ↦ rw e (agrees-unknown (bit v i))
    | inr e ↦ rw e (fits-at n u v h i l)
  ])

  pub always-more : (b : Bool) (t : List ℕ) → T (always b n s t) → T (always b n u t)
  always-more b t h = always_intro b n u t (λ v l f. always-at b n s t h v l (fits_more v f))

-- a side that does not know setting i is judged from the two that tell it false and true, and are the same elsewhere
module _ (n i : ℕ) (s no_side yes-side : ℕ → ℕ) (below : i < n)
    (at : s i ≡ unknown) (at-no : no_side i ≡ told false) (at-yes : yes-side i ≡ told true)
    (same-no : (j : ℕ) → j < n → (j ≡ i → ⊥) → s j ≡ no_side j)
    (same-yes : (j : ℕ) → j < n → (j ≡ i → ⊥) → s j ≡ yes-side j) where
  towards : (u : ℕ → ℕ) → ((j : ℕ) → j < n → (j ≡ i → ⊥) → s j ≡ u j) → (j : ℕ) → j < n → (s j ≡ unknown) ⊎ (s j ≡ u j)
  towards u same j l = elim (ℕ_discrete j i) [ yes e ↦ inl (ap s e ∙ at) | no e ↦ inr (same j l e) ]

  back : (u : ℕ → ℕ) (b : Bool) → u i ≡ told b → ((j : ℕ) → j < n → (j ≡ i → ⊥) → s j ≡ u j) → (v : ℕ) → bit v i ≡ b → T (fits n s v) → T (fits n u v)
  back u b told-i same v e h = fits_intro n u v (λ j l. elim (ℕ_discrete j i) [
    | yes q ↦ rw (q, told-i, e) (agrees-told b)
    | no q ↦ rw (← (same j l q)) (fits-at n s v h j l)
  ])

  pub always-split : (b : Bool) (t : List ℕ) → always b n s t ≡ always b n no_side t && always b n yes-side t
  always-split b t =
      T_iff (always b n s t) (always b n no_side t && always b n yes-side t)
      (λ h. and_in (always b n no_side t) (always b n yes-side t)
      (always-more n s no_side (towards no_side same-no) b t h)
      (always-more n s yes-side (towards yes-side same-yes) b t h))
      (λ h. always_intro b n s t (λ v l f. elim (decide (bit v i)) [
        | inl e ↦ always-at b n yes-side t (and_right (always b n no_side t) (always b n yes-side t) h) v l
            (back yes-side true at-yes same-yes v (T→true (bit v i) e) f)
        | inr e ↦ always-at b n no_side t (and_left (always b n no_side t) (always b n yes-side t) h) v l
            (back no_side false at-no same-no v (T→false (bit v i) e) f)
      ]))

-- a side that tells every setting is judged at the one valuation that it tells
pub always-one : (b : Bool) (n : ℕ) (s : ℕ → ℕ) (t : List ℕ) (w : ℕ) → w < 2 ^ n → ((i : ℕ) → i < n → s i ≡ told (bit w i))
    → always b n s t ≡ is b (truth t w)
always-one b n s t w small all_told =
    T_iff (always b n s t) (is b (truth t w))
    (λ h. always-at b n s t h w small (fits_intro n s w (λ i l. rw (all_told i l) (agrees-told (bit w i)))))
    (λ h. always_intro b n s t (λ v l f. rw (only v l f) h))
  where
    only : (v : ℕ) → v < 2 ^ n → T (fits n s v) → v ≡ w
    only v l f =
        same_bits n v w l small (λ i m. agrees-only (bit w i) (bit v i) (rw (all_told i m) at (fits-at n s v f i m)))

-- a valuation of up to seven settings reads the first sixteen bytes alone
pub always-take : (b : Bool) (n : ℕ) (side : ℕ → ℕ) (t : List ℕ) → n ≤ 7 → always b n side (take 16 t) ≡ always b n side t
unfolding always
always-take b n side t h =
    all_ext (2 ^ n) _ _ (λ v l. ap (λ (x : Bool). implies (fits n side v) (is b x)) (truth-take t v (omega (arith, pow_mono h))))

-- a guard by the count of settings, before a judgement that only reads where the count is in range
pub guarded : (n : ℕ) (a b : Bool) → (n ≤ 7 → a ≡ b) → leb n 7 && a ≡ leb n 7 && b
guarded n a b same = go (leb n 7) refl
  where
    go : (c : Bool) → leb n 7 ≡ c → c && a ≡ c && b
    go true e = same (leb-true n 7 e)
    go false e = refl
