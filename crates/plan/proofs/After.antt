-- What the team knows after a run is so: a set makes its setting what the new digit tells, a look tells what the setting is. So a plan
-- that works, carried out on real settings, ends where the goal is settled, and what it was to make true is true.
use mathlib.Core.Path.{◌≡◌, refl, sym, subst}
use mathlib.Core.Logic.{inl, inr}
use mathlib.Core.List.{List}
use mathlib.Core.Bool.{Bool, true, false}
use Prim.Native.Nat.{ℕ, ◌^◌, ◌<◌}
use native.Mathlib.Decide.{ℕ_discrete}
use lib.Dec.{T}
use Rattle.ground.specs.Digits.{digit, bit}
use Rattle.ground.specs.Table.{truth}
use Rattle.ground.proofs.Bools.{T→true, T→false, decide}
use Rattle.ground.proofs.Digits.{digit_lt}
use Rattle.knowledge_acts.specs.Seven.{start_told, now_told, first_digit}
use Rattle.knowledge_acts.specs.Acts.{set_to, look_at}
use Rattle.knowledge_acts.specs.declared.act.Act.TheVariants.{Set, Look}
use Rattle.knowledge_acts.proofs.Seven.{now_set, now_look}
use Rattle.knowledge_acts.proofs.Outcomes.{set_here, set_other, look_here, look_other}
use Rattle.knowledge.specs.Fits.{fits_now, fits_start, now_side}
use Rattle.knowledge.specs.Judgement.{known}
use Rattle.knowledge.proofs.Fits.{agrees-told, fits-at, fits_intro, fits_ext}
use Rattle.knowledge.proofs.Known.{known_at}
use Rattle.plan.specs.Plans.{System, Lawful, Plan, stop, set_then, look_then, Permitted, Works}
use Rattle.plan.specs.Runs.{change, run}
use Rattle.plan.specs.After.{knows_after, real_after}
use Rattle.plan.proofs.Effects.{change-here, change-other, change_lt}
use Rattle.plan.proofs.RunLaws.{run_look, Came, came_set, came_look}
use Rattle.plan.proofs.Unknowns.{seven}
use Rattle.plan.proofs.Size.{works_permitted}

first-sides : (a b : Bool) → start_told (first_digit a b) ≡ now_told (first_digit a b)
unfolding start_told now_told first_digit
first-sides false b = refl
first-sides true false = refl
first-sides true true = refl

module _ (n : ℕ) where
  -- what is known at k is so: of the start v, and now, of the real settings a
  pub record So (k v a : ℕ) : Type 0 where
    pub came : Came n k v a
    pub now : T (fits_now n (digit 7 k) a)
    pub below : a < 2 ^ n

  -- at the start: a valuation that fits what is known of the start and of now
  pub so_start : (k v : ℕ) → v < 2 ^ n → T (fits_start n (digit 7 k) v) → T (fits_now n (digit 7 k) v) → So k v v
  so_start k v l f t = record { came = record { fitting = f; real = λ i m z. refl }; now = t; below = l }

  -- "At the start each digit is 0, 3 or 6": what is known of now is then what is known of the start
  pub first_now : (k v : ℕ) → ((i : ℕ) → i < n → (a : Bool) × (b : Bool) × (digit 7 k i ≡ first_digit a b))
      → T (fits_start n (digit 7 k) v) → T (fits_now n (digit 7 k) v)
  unfolding fits_now fits_start
  first_now k v first f = subst T (fits_ext n _ _ v (λ i l. let d = first i l in rw d.2 (first-sides d.0 d.1))) f

  so_set : (k i v a : ℕ) (b : Bool) → i < n → So k v a → So (set_to k i b) v (change a i b)
  unfolding fits_now
  so_set k i v a b l h = record {
    came = came_set n k i v a b h.came;
    now = fits_intro n _ (change a i b) (λ j m. elim (ℕ_discrete j i) [
      | yes s ↦ rw (s, set_here k i b, now_set (digit 7 k i) b (digit_lt seven k i), change-here a i b) (agrees-told b)
      | no ne ↦ rw (set_other k i b j ne, change-other a i j b ne) (fits-at n (now_side (digit 7 k)) a h.now j m)
    ]);
    below = change_lt a i n b h.below l;
  }

  so_look : (k i v a : ℕ) (b : Bool) → i < n → digit 7 k i ≡ 0 → bit a i ≡ b → So k v a → So (look_at k i b) v a
  unfolding fits_now
  so_look k i v a b l z e h = record {
    came = came_look n k i v a b l z e h.came;
    now = fits_intro n _ a (λ j m. elim (ℕ_discrete j i) [
      | yes s ↦ rw (s, look_here k i b, now_look b, e) (agrees-told b)
      | no ne ↦ rw (look_other k i b j ne) (fits-at n (now_side (digit 7 k)) a h.now j m)
    ]);
    below = h.below;
  }

  module _ {S : System} (law : Lawful n S) where
    -- whatever permitted plan is carried out, what the team then knows is so
    pub so_after : (p : Plan) (k v a : ℕ) → Permitted S k p → So k v a → So (knows_after k (run p a)) v (real_after a (run p a))
    so_after stop k v a m h = h
    so_after (set_then i q b p) k v a m h =
        so_after p (set_to k i b) v (change a i b) m.1 (so_set k i v a b (law.setting_of_case k (Set i q b) m.0) h)
    so_after (look_then i q p r) k v a m h =
        let l = law.setting_of_case k (Look i q) m.0 in
        let z = law.looks_at k i q m.0 in
        elim (decide (bit a i)) [
          | inl t ↦ (let e = T→true (bit a i) t in subst (λ es. So (knows_after k es) v (real_after a es)) (sym (run_look i q a true p r e))
              (so_after r (look_at k i true) v a m.2 (so_look k i v a true l z e h)))
          | inr t ↦ (let e = T→false (bit a i) t in subst (λ es. So (knows_after k es) v (real_after a es)) (sym (run_look i q a false p r e))
              (so_after p (look_at k i false) v a m.1 (so_look k i v a false l z e h)))
        ]

-- "it works if the goal is settled at every stop": so it is after every run, by what was done and seen
pub settled-after : (S : System) (p : Plan) (k a : ℕ) → Works S k p → T (S.goal (knows_after k (run p a)))
settled-after S stop k a works = works
settled-after S (set_then i q b p) k a works = settled-after S p (set_to k i b) (change a i b) works.1
settled-after S (look_then i q p r) k a works = elim (decide (bit a i)) [
  | inl t ↦ subst (λ es. T (S.goal (knows_after k es))) (sym (run_look i q a true p r (T→true (bit a i) t)))
      (settled-after S r (look_at k i true) a works.2)
  | inr t ↦ subst (λ es. T (S.goal (knows_after k es))) (sym (run_look i q a false p r (T→false (bit a i) t)))
      (settled-after S p (look_at k i false) a works.1)
]

-- a plan that works, carried out on any start that agrees with what is known, leaves the settings so that the formula to make is true
pub made_after : (n : ℕ) (formula : List ℕ) {S : System} → Lawful n S → ((k : ℕ) → T (S.goal k) → T (known n (digit 7 k) formula))
    → (p : Plan) (k v : ℕ) → Works S k p → v < 2 ^ n → T (fits_start n (digit 7 k) v) → T (fits_now n (digit 7 k) v)
    → T (truth formula (real_after v (run p v)))
made_after n formula {S} law makes p k v works l f t =
    let end = so_after n law p k v v (works_permitted S p k works) (so_start n k v l f t) in
    known_at n (digit 7 (knows_after k (run p v))) formula (makes (knows_after k (run p v)) (settled-after S p k v works))
    (real_after v (run p v)) end.below end.now
