-- Either a permitted plan settles the formula at every stop, or two starts that differ on it run alike: walk to a stop where it is
-- open. A look on the way was at a digit 0, where nobody had set the setting, so it read the start's value, which both starts share.
use mathlib.Core.Path.{◌≡◌, refl, sym, ap, ◌∙◌}
use mathlib.Core.Logic.{◌⊎◌, inl, inr}
use mathlib.Core.List.{List, ◌∷◌}
use mathlib.Core.Bool.{Bool, true, false, not}
use Prim.Native.Nat.{ℕ, ◌^◌, ◌<◌}
use native.Mathlib.Decide.{ℕ_discrete}
use native.Mathlib.Omega.{arith}
use lib.Dec.{T}
use Rattle.ground.specs.Digits.{digit, bit}
use Rattle.ground.specs.Table.{truth}
use Rattle.ground.proofs.Bools.{decide}
use Rattle.ground.proofs.Search.{all-at, all_intro}
use Rattle.knowledge_acts.specs.Seven.{start_told, after_look}
use Rattle.knowledge_acts.specs.Acts.{set_to, look_at}
use Rattle.knowledge_acts.specs.declared.act.Act.TheVariants.{Set, Look}
use Rattle.knowledge.specs.Fits.{agrees, fits, fits_start, start_side}
use Rattle.knowledge.specs.Judgement.{learn_settled}
use Rattle.knowledge.proofs.JudgementLaws.{open_both}
use Rattle.plan.specs.Plans.{System, Lawful, Plan, stop, set_then, look_then, Permitted, Works}
use Rattle.plan.specs.Ranks.{Cannot}
use Rattle.plan.specs.Runs.{change, did, saw, run}
use Rattle.plan.specs.Secret.{Twins}
use Rattle.knowledge_acts.proofs.Outcomes.{look_here, look_other}
use Rattle.plan.proofs.Effects.{start_stays}
use Rattle.plan.proofs.RunLaws.{taken, run_look, Real, real_set, real_look}

-- what a look has shown at the start
seen : (b x : Bool) → T (agrees (start_told (after_look b)) x) → x ≡ b
unfolding agrees start_told after_look
seen false false h = refl
seen false true h = absurd h
seen true false h = absurd h
seen true true h = refl

module _ (n : ℕ) where
  pub fits-set : (k i v : ℕ) (b : Bool) → T (fits_start n (digit 7 (set_to k i b)) v) → T (fits_start n (digit 7 k) v)
  unfolding fits_start fits
  fits-set k i v b t =
      all_intro n _ (λ j l. rw (start_stays k i j b) at
      (all-at n (λ j. agrees (start_side (digit 7 (set_to k i b)) j) (bit v j)) t j l))

  pub fits_look : (k i v : ℕ) (b : Bool) → digit 7 k i ≡ 0 → T (fits_start n (digit 7 (look_at k i b)) v) → T (fits_start n (digit 7 k) v)
  unfolding fits_start fits agrees start_told
  fits_look k i v b z t = all_intro n _ (λ j l. elim (ℕ_discrete j i) [
    | yes e ↦ rw (e, z) tt
    | no ne ↦ rw (look_other k i b j ne) at (all-at n (λ j. agrees (start_side (digit 7 (look_at k i b)) j) (bit v j)) t j l)
  ])

  -- a start that fits what a look has shown has that value
  pub fits_seen : (k i v : ℕ) (b : Bool) → i < n → T (fits_start n (digit 7 (look_at k i b)) v) → bit v i ≡ b
  unfolding fits_start fits
  fits_seen k i v b l t =
      seen b (bit v i) (rw (look_here k i b) at (all-at n (λ j. agrees (start_side (digit 7 (look_at k i b)) j) (bit v j)) t i l))

module _ (n : ℕ) (formula : List ℕ) where
  -- two starts that differ on the formula, and run alike from all real settings that they can have come to
  record Open (k : ℕ) (p : Plan) : Type 0 where
    one : ℕ
    other : ℕ
    one_lt : one < 2 ^ n
    other_lt : other < 2 ^ n
    one_fits : T (fits_start n (digit 7 k) one)
    other_fits : T (fits_start n (digit 7 k) other)
    one_false : truth formula one ≡ false
    other_true : truth formula other ≡ true
    alike : (a b : ℕ) → Real n k one a → Real n k other b → run p a ≡ run p b

  open_stop : (k : ℕ) → T (not (learn_settled n (digit 7 k) formula)) → Open k stop
  unfolding learn_settled fits_start
  open_stop k h =
      let ((w, w-lt, w_Fits, w-true), (v, v-lt, v-fits, v-false)) = open_both n (start_side (digit 7 k)) formula h in
      record {
        one = v;
        other = w;
        one_lt = v-lt;
        other_lt = w-lt;
        one_fits = v-fits;
        other_fits = w_Fits;
        one_false = v-false;
        other_true = w-true;
        alike = λ a b x y. refl;
      }

  open_set : (k i q : ℕ) (b : Bool) (p : Plan) → Open (set_to k i b) p → Open k (set_then i q b p)
  open_set k i q b p o = record {
    one = o.one;
    other = o.other;
    one_lt = o.one_lt;
    other_lt = o.other_lt;
    one_fits = fits-set n k i o.one b o.one_fits;
    other_fits = fits-set n k i o.other b o.other_fits;
    one_false = o.one_false;
    other_true = o.other_true;
    alike = λ a c x y. ap (λ l. did (Set i q b) ∷ l)
        (o.alike (change a i b) (change c i b) (real_set n k i o.one a b x) (real_set n k i o.other c b y));
  }

  open_look : (k i q : ℕ) (b : Bool) (p r : Plan) → i < n → digit 7 k i ≡ 0 → Open (look_at k i b) (taken b p r) → Open k (look_then i q p r)
  open_look k i q b p r l z o = record {
    one = o.one;
    other = o.other;
    one_lt = o.one_lt;
    other_lt = o.other_lt;
    one_fits = fits_look n k i o.one b z o.one_fits;
    other_fits = fits_look n k i o.other b z o.other_fits;
    one_false = o.one_false;
    other_true = o.other_true;
    alike = λ a c x y.
        run_look i q a b p r (x i l z ∙ fits_seen n k i o.one b l o.one_fits)
        ∙ ap (λ t. saw (Look i q) b ∷ t) (o.alike a c (real_look n k i o.one a b x) (real_look n k i o.other c b y))
        ∙ sym (run_look i q c b p r (y i l z ∙ fits_seen n k i o.other b l o.other_fits));
  }

  -- a system in which nothing but the formula has to be settled
  module _ {S : System} (law : Lawful n S) (enough : (k : ℕ) → T (learn_settled n (digit 7 k) formula) → T (S.goal k)) where
    works_or_open : (p : Plan) (k : ℕ) → Permitted S k p → Works S k p ⊎ Open k p
    works_or_open stop k m = elim (decide (learn_settled n (digit 7 k) formula)) [
      | inl t ↦ inl (enough k t)
      | inr t ↦ inr (open_stop k t)
    ]
    works_or_open (set_then i q b p) k m = elim (works_or_open p (set_to k i b) m.1) [
      | inl w ↦ inl (m.0, w)
      | inr o ↦ inr (open_set k i q b p o)
    ]
    works_or_open (look_then i q p r) k m = elim (works_or_open p (look_at k i false) m.1) [
      | inr o ↦ inr (open_look k i q false p r (law.setting_of_case k (Look i q) m.0) (law.looks_at k i q m.0) o)
      | inl w ↦ elim (works_or_open r (look_at k i true) m.2) [
        | inr o ↦ inr (open_look k i q true p r (law.setting_of_case k (Look i q) m.0) (law.looks_at k i q m.0) o)
        | inl x ↦ inl (m.0, w, x)
      ]
    ]

    -- a permitted plan works, or leaves two starts that it cannot tell apart
    pub works_or_twins : (p : Plan) (k : ℕ) → Permitted S k p → Works S k p ⊎ Twins n formula k p
    works_or_twins p k m = elim (works_or_open p k m) [
      | inl w ↦ inl w
      | inr o ↦ inr (record {
        one = o.one;
        other = o.other;
        one_lt = o.one_lt;
        other_lt = o.other_lt;
        one_fits = o.one_fits;
        other_fits = o.other_fits;
        differ = λ e. let z : false ≡ true = sym o.one_false ∙ e ∙ o.other_true in let c : ◌≡◌ {A = ℕ} 0 1 = cc in omega arith;
        same_run = o.alike o.one o.other (λ i l z. refl) (λ i l z. refl);
      })
    ]

    -- demand 3: where no plan works, every permitted plan leaves such starts
    pub secret : (k : ℕ) → Cannot S k → (p : Plan) → Permitted S k p → Twins n formula k p
    secret k none p m = elim (works_or_twins p k m) [ inl w ↦ absurd (none p w) | inr t ↦ t ]
