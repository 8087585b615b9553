-- The plan written: it exists where the rank is finite, by induction on the rank, with the least byte among the acts into lower
-- ranks; it works and has the rank for its height, since each act lowers the rank and none lowers it by more than a plan can; and it
-- is the only one, since a byte names one act.
use mathlib.Core.Path.{◌≡◌, refl}
use mathlib.Core.Logic.{inl, inr}
use mathlib.Core.Bool.{Bool, true, false}
use Prim.Native.Nat.{ℕ, zero, suc, ◌≤◌, ◌<◌}
use native.Mathlib.Nat.{le_antisymm}
use native.Mathlib.Omega.{arith}
use lib.Dec.{T}
use Rattle.ground.proofs.Bools.{lt_or_ge}
use Rattle.knowledge_acts.specs.Acts.{byte_of, act_of, set_to, look_at}
use Rattle.knowledge_acts.specs.declared.act.Act.{Act}
use Rattle.knowledge_acts.specs.declared.act.Act.TheVariants.{Set, Look}
use Rattle.std.proofs.Common.{Option, Some, None}
use Rattle.plan.specs.Plans.{System, Lawful, Outcome, after_set_case, after_look, Plan, stop, set_then, look_then, Works, height}
use Rattle.plan.specs.Ranks.{IsRank, Lowers, Chosen, Written}
use Rattle.plan.proofs.Acts.{can_in, can-may, can-at}
use Rattle.plan.specs.Layers.{can, below}
use Rattle.plan.proofs.Layers.{complete, layer_out}
use Rattle.knowledge_acts.proofs.Acts.{act_of_byte}
use Rattle.plan.proofs.Bytes.{byte_of_act, byte_injective}
use Rattle.plan.proofs.Ranks.{first_of, rank_unique, rank-least, rank_in, rank_out}

-- a plan of height 0 is a stop
stops-at-goal : (S : System) (p : Plan) (k : ℕ) → Works S k p → height p ≡ 0 → T (S.goal k)
stops-at-goal S stop k w e = w
stops-at-goal S (set_then i q b p) k w e = absurd (omega arith)
stops-at-goal S (look_then i q p r) k w e = absurd (omega arith)

pub written_works : (S : System) (p : Plan) (k : ℕ) → Written S k p → Works S k p
written_works S stop k (inl a) = stops-at-goal S a.here.0 k a.here.1 a.here.2
written_works S stop k (inr a) = absurd (omega (arith, a.0))
written_works S (set_then i q b p) k w = (w.0.lowers.allowed, written_works S p (set_to k i b) w.1)
written_works S (look_then i q p r) k w =
    (w.0.lowers.allowed, written_works S p (look_at k i false) w.1, written_works S r (look_at k i true) w.2)

pub written-height : (S : System) (p : Plan) (k r : ℕ) → Written S k p → IsRank S k r → height p ≡ r
written-height S stop k r w a = rank_unique S k w a
written-height S (set_then i q b p) k r w a =
    let o = w.0.lowers.lower (set_to k i b) (after_set_case i q b) in
    omega (
      arith,
      rank_unique S k w.0.is_rank a,
      o.2,
      written-height S p (set_to k i b) o.0 w.1 o.1,
      rank-least S k a (set_then i q b p) (written_works S (set_then i q b p) k w),
    )
written-height S (look_then i q p s) k r w a =
    let o = w.0.lowers.lower (look_at k i false) (after_look i q false) in
    let u = w.0.lowers.lower (look_at k i true) (after_look i q true) in
    omega (
      arith,
      rank_unique S k w.0.is_rank a,
      o.2,
      u.2,
      written-height S p (look_at k i false) o.0 w.1 o.1,
      written-height S s (look_at k i true) u.0 w.2 u.1,
      rank-least S k a (look_then i q p s) (written_works S (look_then i q p s) k w),
    )

module _ {n : ℕ} {S : System} (law : Lawful n S) (few : n ≤ 7) where
  -- two acts chosen at a state are one
  one_choice : (k : ℕ) (a c : Act) → Chosen S k a → Chosen S k c → a ≡ c
  one_choice k a c x y =
      let e = rank_unique S k x.is_rank y.is_rank in
      let m = x.lowers.allowed in
      let l = y.lowers.allowed in
      byte_injective a c (omega (arith, law.setting_of_case k a m)) (law.post_of_case k a m) (omega (arith, law.setting_of_case k c l)) (law.post_of_case k c l)
      (le_antisymm (x.smallest c (rw e y.lowers)) (y.smallest a (rw e at x.lowers)))

  -- an act that may be done lowers a rank of at most 255 exactly where the layer of its outcomes says so
  lowers_in : (k r : ℕ) (a : Act) → T (can S (below n S r) k a) → Lowers S k r a
  lowers_in k r a t = record {
    allowed = can-may S (below n S r) k a t;
    lower = λ x o. rank_out law x r (can-at S (below n S r) k a t o);
  }

  lowers_out : (k r : ℕ) (a : Act) → r ≤ 255 → Lowers S k r a → T (can S (below n S r) k a)
  lowers_out k r a h l =
      can_in S (below n S r) k a l.allowed (λ x o. let s = l.lower x o in rank_in law x s.0 r s.1 s.2 h)

  -- the byte names an act that lowers the rank
  good : ℕ → ℕ → Option Act → Bool
  good k r None = false
  good k r (Some a) = can S (below n S r) k a

  good_out : (k r : ℕ) (x : Option Act) → T (good k r x) → (a : Act) × (x ≡ Some a) × T (can S (below n S r) k a)
  unfolding good
  good_out k r None t = absurd t
  good_out k r (Some a) t = (a, refl, t)

  good_in : (k r : ℕ) (a : Act) → T (can S (below n S r) k a) → T (good k r (act_of (byte_of a)))
  unfolding good
  good_in k r a t =
      let m = can-may S (below n S r) k a t in
      rw (act_of_byte a (omega (arith, law.setting_of_case k a m)) (law.post_of_case k a m)) t

  -- of the acts that lower the rank, the one with the smallest byte
  choose : (k r : ℕ) (a : Act) → IsRank S k r → r ≤ 255 → T (can S (below n S r) k a) → (c : Act) × Chosen S k c
  choose k r a i h t =
      let f = first_of (λ c. good k r (act_of c)) (byte_of a) (good_in k r a t) in
      let g = good_out k r (act_of f.0) f.1.here in (
        g.0,
        record {
          rank = r;
          is_rank = i;
          lowers = lowers_in k r g.0 g.2;
          smallest = λ c l. elim (lt_or_ge (byte_of c) f.0) [
            | inl m ↦ absurd (f.1.none_below (byte_of c) m (good_in k r c (lowers_out k r c h l)))
            | inr m ↦ omega (arith, byte_of_act f.0 g.0 g.1)
          ];
        },
      )

  -- the act chosen, and the plans written from its outcomes
  act_written : (k : ℕ) (a : Act) → Chosen S k a → ((x : ℕ) → Outcome k a x → (p : Plan) × Written S x p) → (p : Plan) × Written S k p
  act_written k (Set i q b) c f = let r = f (set_to k i b) (after_set_case i q b) in (set_then i q b r.0, (c, r.1))
  act_written k (Look i q) c f =
      let r = f (look_at k i false) (after_look i q false) in
      let s = f (look_at k i true) (after_look i q true) in
      (look_then i q r.0 s.0, (c, r.1, s.1))

  written-within : (h k r : ℕ) → r < h → IsRank S k r → r < 255 → (p : Plan) × Written S k p
  written-within zero k r l a f = absurd (omega arith)
  written-within (suc h) k r l (inr a) f = absurd (omega (arith, a.0))
  written-within (suc h) k zero l (inl a) f = (stop, inl a)
  written-within (suc h) k (suc r) l (inl a) f =
      elim (layer_out law (suc r) k (complete law a.here.0 (suc (suc r)) k a.here.1 (omega (arith, a.here.2)))) [
        | inl g ↦ absurd (a.none_below 0 (omega arith) (stop, g, refl))
        | inr w ↦ (let c = choose k (suc r) w.0 (inl a) (omega arith) (can_in S (below n S (suc r)) k w.0 w.1 w.2) in
            let e = rank_unique S k c.1.is_rank (inl a) in
            act_written k c.0 c.1 (λ x o. let s = c.1.lowers.lower x o in
            written-within h x s.0 (omega (arith, s.2)) s.1 (omega (arith, s.2))))
      ]

  -- the plan written exists where the rank is not 255
  pub written_exists : (k r : ℕ) → IsRank S k r → r < 255 → (p : Plan) × Written S k p
  written_exists k r a f = written-within (suc r) k r (omega arith) a f

  no_stop : (k x : ℕ) (a : Act) → Outcome k a x → Chosen S k a → IsRank S k 0 → ⊥
  no_stop k x a o c z = omega (arith, (c.lowers.lower x o).2, rank_unique S k c.is_rank z)

  pub written_unique : (p s : Plan) (k : ℕ) → Written S k p → Written S k s → p ≡ s
  written_unique stop stop k a b = refl
  written_unique stop (set_then j m c s) k a b = absurd (no_stop k (set_to k j c) (Set j m c) (after_set_case j m c) b.0 a)
  written_unique stop (look_then j m s t) k a b = absurd (no_stop k (look_at k j true) (Look j m) (after_look j m true) b.0 a)
  written_unique (set_then i q b p) stop k a c = absurd (no_stop k (set_to k i b) (Set i q b) (after_set_case i q b) a.0 c)
  written_unique (set_then i q b p) (set_then j m d s) k a c =
      let e = one_choice k (Set i q b) (Set j m d) a.0 c.0 in
      let ei : i ≡ j = cc e in
      let eb : b ≡ d = cc e in
      let ih = written_unique p s (set_to k i b) a.1 (rw (ei, eb) c.1) in
      cc (e, ih)
  written_unique (set_then i q b p) (look_then j m s t) k a c = cc (one_choice k (Set i q b) (Look j m) a.0 c.0)
  written_unique (look_then i q p r) stop k a c = absurd (no_stop k (look_at k i true) (Look i q) (after_look i q true) a.0 c)
  written_unique (look_then i q p r) (set_then j m d s) k a c = cc (one_choice k (Look i q) (Set j m d) a.0 c.0)
  written_unique (look_then i q p r) (look_then j m s t) k a c =
      let e = one_choice k (Look i q) (Look j m) a.0 c.0 in
      let ei : i ≡ j = cc e in
      let ih = written_unique p s (look_at k i false) a.1 (rw ei c.1) in
      let jh = written_unique r t (look_at k i true) a.2 (rw ei c.2) in
      cc (e, ih, jh)
