-- The laws of a judgement: what each of its three answers means, that they exclude one another since some valuation fits every side, and what it reads.
use mathlib.Core.Path.{◌≡◌, refl, sym, ap, ap₂, ◌∙◌}
use mathlib.Core.Logic.{inl, inr, ◌↔◌}
use mathlib.Core.Bool.{Bool, true, false, not, ◌||◌}
use mathlib.Core.List.{List}
use Prim.Native.Nat.{ℕ, zero, suc, ◌/◌, ◌^◌, ◌≤◌, ◌<◌}
use native.Mathlib.Omega.{arith}
use lib.Dec.{T, eqb, lit<, not_T}
use lib.ListN.{take}
use borrow.Author.Tests.{not-false}
use Rattle.ground.specs.Digits.{bit}
use Rattle.ground.specs.Table.{truth}
use Rattle.ground.proofs.Bools.{both, or_out, T→true, T→false, true→T, false→T}
use Rattle.knowledge_acts.proofs.Seven.{now_lt, start_lt}
use Rattle.knowledge.specs.Number.{sum_of}
use Rattle.knowledge.specs.Fits.{agrees, fits, always, now_side, start_side}
use Rattle.knowledge.specs.Judgement.{judged, judgement, holds, settles}
use Rattle.knowledge.specs.declared.judgement.Judgement.{Judgement}
use Rattle.knowledge.specs.declared.judgement.Judgement.TheVariants.{TrueAtAll, FalseAtAll, Neither}
use Rattle.knowledge.proofs.Number.{sum_lt, digits_sum}
use Rattle.knowledge.proofs.Fits.{fits_intro, always-at, always_intro, always_ext, always-take, always_no}

-- ---- some valuation fits

-- a side tells of each setting one of three things
abbrev pub IsSide : ℕ → (ℕ → ℕ) → Type 0
IsSide n side = (i : ℕ) → i < n → side i < 3

pub now_is : (n : ℕ) (d : ℕ → ℕ) → IsSide n (now_side d)
now_is n d i l = now_lt (d i)

pub start_is : (n : ℕ) (d : ℕ → ℕ) → IsSide n (start_side d)
start_is n d i l = start_lt (d i)

-- the value that is told, and false where none is
half_small : (s : ℕ) → s < 3 → s / 2 < 2
half_small s l = omega arith

half_agrees : (s : ℕ) → s < 3 → T (agrees s (eqb (s / 2) 1))
unfolding agrees
half_agrees zero l = tt
half_agrees (suc zero) l = tt
half_agrees (suc (suc zero)) l = tt
half_agrees (suc (suc (suc s))) l = absurd (omega arith)

module _ (n : ℕ) (side : ℕ → ℕ) (three : IsSide n side) where
  -- "At least one valuation always fits": the one with those values
  pub some_fits : (v : ℕ) × (v < 2 ^ n) × T (fits n side v)
  unfolding bit
  some_fits = (
    v,
    sum_lt {b = 2} (lit< tt) values n (λ i l. half_small (side i) (three i l)),
    fits_intro n side v (λ i l. rw (digits_sum {b = 2} (lit< tt) values n (λ j m. half_small (side j) (three j m)) i l) (half_agrees (side i) (three i l))),
  )
    where
      values : ℕ → ℕ
      values i = side i / 2

      v : ℕ
      v = sum_of 2 n values

  -- so no table is both true at all and false at all
  pub not_both : (table : List ℕ) → T (always true n side table) → T (always false n side table) → ⊥
  not_both table yes-all no_all =
      let (v, l, f) = some_fits in
      both (truth table v) (always-at true n side table yes-all v l f) (always-at false n side table no_all v l f)

-- ---- what the three answers tell

not_or : (a b : Bool) → T (not (a || b)) → T (not a) × T (not b)
not_or false false h = (tt, tt)
not_or false true h = absurd h
not_or true b h = absurd h

open_is : (j : Judgement) → T (not (settles j)) → j ≡ Neither
open_is TrueAtAll h = absurd h
open_is FalseAtAll h = absurd h
open_is Neither h = refl

holds-judged : (yes-all no_all : Bool) → holds (judged yes-all no_all) ≡ yes-all
holds-judged true no_all = refl
holds-judged false true = refl
holds-judged false false = refl

settles-judged : (yes-all no_all : Bool) → settles (judged yes-all no_all) ≡ yes-all || no_all
settles-judged true no_all = refl
settles-judged false true = refl
settles-judged false false = refl

module _ (n : ℕ) (side : ℕ → ℕ) (table : List ℕ) where
  pub holds-is : holds (judgement n side table) ≡ always true n side table
  unfolding judgement
  holds-is = holds-judged (always true n side table) (always false n side table)

  pub settles-is : settles (judgement n side table) ≡ always true n side table || always false n side table
  unfolding judgement
  settles-is = settles-judged (always true n side table) (always false n side table)

  -- true at all fitting valuations
  pub true_exactly : (judgement n side table ≡ TrueAtAll) ↔ ((v : ℕ) → v < 2 ^ n → T (fits n side v) → T (truth table v))
  unfolding judgement
  true_exactly = (
    λ e. always-at true n side table (true→T (sym holds-is ∙ ap holds e)),
    λ h. rw (T→true (always true n side table) (always_intro true n side table h)) refl,
  )

  -- false at all
  pub false_exactly : IsSide n side → (judgement n side table ≡ FalseAtAll) ↔ ((v : ℕ) → v < 2 ^ n → T (fits n side v) → T (not (truth table v)))
  unfolding judgement
  false_exactly three = (
    λ e. always-at false n side table (elim (or_out (always true n side table) (always false n side table) (true→T (sym settles-is ∙ ap settles e))) [
      | inl yes-all ↦ both (always true n side table) yes-all (false→T (sym holds-is ∙ ap holds e))
      | inr no_all ↦ no_all
    ]),
    λ h. let no_all = always_intro false n side table h in
        rw (
          T→false (always true n side table) (not_T (always true n side table) (λ yes-all. not_both n side three table yes-all no_all)),
          T→true (always false n side table) no_all,
        ) refl,
  )

  -- neither: true at one of them and false at another
  abbrev Fitting : Bool → Type 0
  Fitting b = (v : ℕ) × (v < 2 ^ n) × T (fits n side v) × (truth table v ≡ b)

  pub neither_exactly : (judgement n side table ≡ Neither) ↔ (Fitting true × Fitting false)
  unfolding judgement
  neither_exactly = (
    λ e. let c = not_or (always true n side table) (always false n side table) (false→T (sym settles-is ∙ ap settles e)) in
        let (w, m, g, was-no) = always_no true n side table c.0 in
        let (v, l, f, was-yes) = always_no false n side table c.1 in
        ((v, l, f, not-false (truth table v) (T→false _ was-yes)), (w, m, g, T→false (truth table w) was-no)),
    λ ((v, l, f, was-yes), (w, m, g, was-no)).
        rw (
          T→false (always true n side table) (not_T (always true n side table) (λ t. both (truth table w) (always-at true n side table t w m g) (false→T was-no))),
          T→false (always false n side table) (not_T (always false n side table) (λ t. both (truth table v) (true→T was-yes) (always-at false n side table t v l f))),
        ) refl,
  )

  -- a formula that is settled has "one same value" at any two valuations that fit; one that is not has both values
  pub settled_alike : T (settles (judgement n side table)) → (v w : ℕ) → v < 2 ^ n → w < 2 ^ n → T (fits n side v) → T (fits n side w)
      → truth table v ≡ truth table w
  settled_alike h v w l m f g = elim (or_out (always true n side table) (always false n side table) (rw settles-is at h)) [
    | inl s ↦ T→true _ (always-at true n side table s v l f) ∙ sym (T→true _ (always-at true n side table s w m g))
    | inr s ↦ T→false _ (always-at false n side table s v l f) ∙ sym (T→false _ (always-at false n side table s w m g))
  ]

  pub open_both : T (not (settles (judgement n side table))) → Fitting true × Fitting false
  open_both h = neither_exactly.0 (open_is (judgement n side table) h)

-- ---- what a judgement reads: the side at the n settings, and of up to seven settings sixteen bytes

pub judgement_ext : (n : ℕ) (s u : ℕ → ℕ) (table : List ℕ) → ((i : ℕ) → i < n → s i ≡ u i) → judgement n s table ≡ judgement n u table
unfolding judgement
judgement_ext n s u table same = ap₂ judged (always_ext true n s u table same) (always_ext false n s u table same)

pub judgement-take : (n : ℕ) (side : ℕ → ℕ) (table : List ℕ) → n ≤ 7 → judgement n side (take 16 table) ≡ judgement n side table
unfolding judgement
judgement-take n side table few = ap₂ judged (always-take true n side table few) (always-take false n side table few)
