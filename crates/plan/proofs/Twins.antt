-- A plan that works has no twins: walk down it with both runs. They are equal, so each look shows both the same and they take the same
-- branch. A look is at a digit 0, where nobody has set the setting, so what it shows is the start's value, and both starts still fit
-- what is known after it. At the stop the formula has one value at all starts that fit. This asks nothing of the state k: what was set
-- before is never looked at.
use mathlib.Core.Path.{◌≡◌, refl, sym, subst, ap, ◌∙◌}
use mathlib.Core.Logic.{inl, inr, ◌↔◌}
use mathlib.Core.List.{List, [], ◌∷◌}
use mathlib.Core.Bool.{Bool, true, false}
use Prim.Native.Nat.{ℕ, ◌^◌, ◌<◌}
use lib.Dec.{T}
use Rattle.ground.specs.Digits.{digit, bit}
use Rattle.ground.specs.Table.{truth}
use Rattle.ground.proofs.Bools.{T→true, T→false, decide}
use Rattle.knowledge_acts.specs.Acts.{set_to, look_at}
use Rattle.knowledge_acts.specs.declared.act.Act.TheVariants.{Look}
use Rattle.knowledge.specs.Fits.{fits_start, start_side}
use Rattle.knowledge.specs.Judgement.{learn_settled}
use Rattle.knowledge.proofs.JudgementLaws.{settled_alike}
use Rattle.plan.specs.Plans.{System, Lawful, Plan, stop, set_then, look_then, Permitted, Works}
use Rattle.plan.specs.Ranks.{Cannot}
use Rattle.plan.specs.Runs.{change, Event, did, saw, run}
use Rattle.plan.specs.Secret.{Twins}
use Rattle.plan.proofs.RunLaws.{taken, run_look, Came, came_set, came_look}
use Rattle.plan.proofs.Size.{works_permitted}
use Rattle.plan.proofs.Secret.{works_or_twins, secret}

-- what a run that begins with a look saw there, and a run after its first event
abbrev reading : List Event → Bool
reading [] = false
reading (did a ∷ l) = false
reading (saw a b ∷ l) = b

abbrev rest : List Event → List Event
rest [] = []
rest (e ∷ l) = l

-- equal runs of a plan that begins with a look, on settings of which the first shows b: so does the second, and they go on alike
module _ (i q : ℕ) (p r : Plan) (a c : ℕ) (same : run (look_then i q p r) a ≡ run (look_then i q p r) c) (b : Bool) (e : bit a i ≡ b) where
  same_reading : bit c i ≡ b
  same_reading = sym (ap reading same) ∙ e

  same_rest : run (taken b p r) a ≡ run (taken b p r) c
  same_rest = ap rest (sym (run_look i q a b p r e) ∙ same ∙ run_look i q c b p r same_reading)

module _ (n : ℕ) (formula : List ℕ) where
  -- where the formula is settled, starts that fit give it one value
  one_value : (k v w : ℕ) → v < 2 ^ n → w < 2 ^ n → T (fits_start n (digit 7 k) v) → T (fits_start n (digit 7 k) w)
      → T (learn_settled n (digit 7 k) formula) → truth formula v ≡ truth formula w
  unfolding fits_start learn_settled
  one_value k v w hv hw fv fw t =
      settled_alike n (start_side (digit 7 k)) formula t v w hv hw fv fw

  module _ {S : System} (law : Lawful n S) where
    -- a system whose goal asks that the formula is settled
    module _ (settles : (k : ℕ) → T (S.goal k) → T (learn_settled n (digit 7 k) formula)) where
      -- two starts whose runs of a working plan are equal give the formula one value
      module _ (v w : ℕ) (hv : v < 2 ^ n) (hw : w < 2 ^ n) where
        alike : (p : Plan) (k a c : ℕ) → Works S k p → Came n k v a → Came n k w c → run p a ≡ run p c → truth formula v ≡ truth formula w
        alike stop k a c works x y same = one_value k v w hv hw x.fitting y.fitting (settles k works)
        alike (set_then i q b p) k a c works x y same =
            alike p (set_to k i b) (change a i b) (change c i b) works.1 (came_set n k i v a b x) (came_set n k i w c b y) (ap rest same)
        alike (look_then i q p r) k a c works x y same =
            let l = law.setting_of_case k (Look i q) works.0 in
            let z = law.looks_at k i q works.0 in
            elim (decide (bit a i)) [
              | inl t ↦ (let e = T→true (bit a i) t in alike r (look_at k i true) a c works.2
                  (came_look n k i v a true l z e x) (came_look n k i w c true l z (same_reading i q p r a c same true e) y)
                  (same_rest i q p r a c same true e))
              | inr t ↦ (let e = T→false (bit a i) t in alike p (look_at k i false) a c works.1
                  (came_look n k i v a false l z e x) (came_look n k i w c false l z (same_reading i q p r a c same false e) y)
                  (same_rest i q p r a c same false e))
            ]

      -- a plan that works leaves no two starts that differ on the formula and run alike
      pub works_no_twins : (p : Plan) (k : ℕ) → Works S k p → Twins n formula k p → ⊥
      works_no_twins p k works t =
          t.differ (alike t.one t.other t.one_lt t.other_lt p k t.one t.other works
          (record { fitting = t.one_fits; real = λ i l z. refl }) (record { fitting = t.other_fits; real = λ i l z. refl })
          t.same_run)

    -- a system whose goal is that the formula is settled, and nothing more
    module _ (exact : (k : ℕ) → S.goal k ≡ learn_settled n (digit 7 k) formula) where
      settles : (k : ℕ) → T (S.goal k) → T (learn_settled n (digit 7 k) formula)
      settles k t = subst T (exact k) t

      enough : (k : ℕ) → T (learn_settled n (digit 7 k) formula) → T (S.goal k)
      enough k t = subst T (sym (exact k)) t

      -- a permitted plan has twins exactly where it does not work
      pub twins_exactly : (p : Plan) (k : ℕ) → Permitted S k p → Twins n formula k p ↔ (Works S k p → ⊥)
      twins_exactly p k m = (
        λ t works. works_no_twins settles p k works t,
        λ none. elim (works_or_twins n formula law enough p k m) [ inl works ↦ absurd (none works) | inr t ↦ t ],
      )

      -- no plan works exactly where every permitted plan has twins
      pub cannot_exactly : (k : ℕ) → Cannot S k ↔ ((p : Plan) → Permitted S k p → Twins n formula k p)
      cannot_exactly k = (
        secret n formula law enough k,
        λ twins p works. works_no_twins settles p k works (twins p (works_permitted S p k works)),
      )
