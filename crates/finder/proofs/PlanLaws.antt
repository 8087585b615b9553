-- The plan written, from the step chosen at a state and the plans written from its outcomes; and where the step is a stop, the rank is 0.
use mathlib.Core.Path.{◌≡◌, sym, ap₂, ◌∙◌, subst}
use mathlib.Core.List.{List, ◌∷◌, ◌++◌}
use mathlib.Core.Bool.{Bool, true, false}
use Rattle.std.proofs.Common.{None}
use Prim.Native.Nat.{ℕ, ◌+◌, ◌^◌, ◌≤◌, ◌<◌}
use native.Mathlib.Numerals.{add-one}
use native.Mathlib.Omega.{arith}
use lib.ListN.{length, get_or, set, length-append}
use lib.Seq.{sets}
use Rattle.ground.proofs.Lists.{sets-append}
use Rattle.knowledge_acts.specs.Acts.{set_to, look_at, byte_of, plan_byte, setting_of}
use Rattle.knowledge_acts.proofs.Acts.{plan-byte}
use Rattle.knowledge_acts.specs.declared.act.Act.{Act}
use Rattle.knowledge_acts.specs.declared.act.Act.TheVariants.{Set, Look}
use Rattle.plan.specs.Plans.{System, after_set_case, after_look, Plan, stop, set_then, look_then}
use Rattle.plan.specs.Ranks.{IsRank, Chosen, Written}
use Rattle.plan.specs.Bytes.{encode}
use Rattle.plan.specs.Certificate.{Leads}
use Rattle.plan.proofs.Ranks.{rank_unique}
use Rattle.knowledge_acts.proofs.Outcomes.{set_below, look_below}
use Rattle.plan.proofs.Certificate.{numbers_closed}
use Rattle.plan.proofs.Table.{lowers_out}
use Rattle.plan.proofs.Written.{written_exists}
use Rattle.plan.proofs.Accepted.{written-most}
use Rattle.finder.specs.Tables.{TablesTell, Lower, Chooses, Ranked, PlanFits}

module _ {n : ℕ} {sets' looks : List (List ℕ)} {ranks : List ℕ} where
  -- the act chosen leads to lower entries
  chosen_lower : {S : System} {k : ℕ} {a : Act} → TablesTell n sets' looks ranks S → k < 7 ^ n → Chosen S k a → Lower S ranks k a
  chosen_lower {S} {k} {a} t h c =
      subst (λ (r : ℕ). Leads S (λ x. get_or ranks x 0) k r a) (rank_unique S k c.is_rank (t.ranked k h))
      (lowers_out (numbers_closed t.law) t.ranked k c.rank a h c.lowers)

  chosen_setting : {S : System} {k : ℕ} {a : Act} → TablesTell n sets' looks ranks S → Chosen S k a → setting_of a < n
  chosen_setting {S} {k} {a} t c = t.law.setting_of_case k a c.lowers.allowed

  -- where no act leads lower, the rank is 0
  stop-rank : {S : System} {k : ℕ} → TablesTell n sets' looks ranks S → k < 7 ^ n → get_or ranks k 0 < 255 → ((a : Act) → Lower S ranks k a → ⊥) → IsRank S k 0
  stop-rank {S} {k} t h f none = first (written_exists t.law t.few k (get_or ranks k 0) (t.ranked k h) f)
    where
      first : (p : Plan) × Written S k p → IsRank S k 0
      first (stop, w) = w
      first (set_then i q b p, w) = absurd (none (Set i q b) (chosen_lower t h w.0))
      first (look_then i q p r, w) = absurd (none (Look i q) (chosen_lower t h w.0))

  module _ {k : ℕ} (from : Ranked n sets' looks ranks k) where
    -- the states after the act chosen have lower ranks
    pub next-set : (i q : ℕ) (b : Bool) → Chosen from.system k (Set i q b) → Ranked n sets' looks ranks (set_to k i b) × (get_or ranks (set_to k i b) 0 < get_or ranks k 0)
    next-set i q b c =
        let l : get_or ranks (set_to k i b) 0 < get_or ranks k 0 = (chosen_lower from.told from.state c).lower (set_to k i b) (after_set_case i q b) in (
          record {
            few = from.few;
            state = set_below k i b n from.state (chosen_setting from.told c);
            size = from.size;
            finite = omega (arith, from.finite);
            system = from.system;
            told = from.told;
          },
          l,
        )

    pub next_look : (i q : ℕ) (b : Bool) → Chosen from.system k (Look i q) → Ranked n sets' looks ranks (look_at k i b) × (get_or ranks (look_at k i b) 0 < get_or ranks k 0)
    next_look i q b c =
        let l : get_or ranks (look_at k i b) 0 < get_or ranks k 0 = (chosen_lower from.told from.state c).lower (look_at k i b) (after_look i q b) in (
          record {
            few = from.few;
            state = look_below k i b n from.state (chosen_setting from.told c);
            size = from.size;
            finite = omega (arith, from.finite);
            system = from.system;
            told = from.told;
          },
          l,
        )

    pub step-setting : (a : Act) → Chosen from.system k a → setting_of a < 7
    step-setting a c = omega (arith, chosen_setting from.told c, from.few)

    -- and its byte is one of a plan
    pub step-byte : (a : Act) → Chosen from.system k a → plan_byte a ≡ byte_of a
    step-byte a c = plan-byte a (step-setting a c) (from.told.law.post_of_case k a c.lowers.allowed)

    -- a plan written from k has at most 32,640 bytes
    pub most : {r : ℕ} → ((S : System) → TablesTell n sets' looks ranks S → (p : Plan) × Written S k p × (r ≡ length (encode p))) → r ≤ 32640
    most f =
        let x = f from.system from.told in
        omega (arith, x.2, written-most from.told.law from.few k x.0 (get_or ranks k 0) x.1 (from.told.ranked k from.state) from.finite)

    pub stop-plan : (S : System) → TablesTell n sets' looks ranks S → Chooses S ranks k None → Written S k stop
    stop-plan S t none = stop-rank t from.state from.finite none

-- a state after the act, by the number that code computed: its entry is below t, the one at k
pub next_here : {n : ℕ} {sets' looks : List (List ℕ)} {ranks : List ℕ} {k x y t : ℕ} → Ranked n sets' looks ranks k → x ≡ y → get_or ranks k 0 ≡ t
    → Ranked n sets' looks ranks y × (get_or ranks y 0 < get_or ranks k 0) → (get_or ranks x 0 < t) × Ranked n sets' looks ranks x
next_here {n} {sets'} {looks} {ranks} {t = t} from e here next =
    (subst (λ (z : ℕ). get_or ranks z 0 < t) (sym e) (omega (arith, here, next.1)), subst (Ranked n sets' looks ranks) (sym e) next.0)

-- a plan that was written from each state after the act, and its bytes
module _ {n : ℕ} {sets' looks : List (List ℕ)} {ranks : List ℕ} {k : ℕ} where
  pub set-plan : {i q : ℕ} {b : Bool} {x r : ℕ} → ((S : System) → TablesTell n sets' looks ranks S → Chosen S k (Set i q b)) → x ≡ set_to k i b
      → ((S : System) → TablesTell n sets' looks ranks S → (p : Plan) × Written S x p × (r ≡ length (encode p)))
      → (S : System) → TablesTell n sets' looks ranks S → (p : Plan) × Written S k p × (1 + r ≡ length (encode p))
  set-plan {i} {q} {b} c e f S t =
      let y = f S t in
      (set_then i q b y.0, (c S t, subst (λ (z : ℕ). Written S z y.0) e y.1), omega (arith, y.2))

  pub look_plan : {i q x y r s : ℕ} → ((S : System) → TablesTell n sets' looks ranks S → Chosen S k (Look i q)) → x ≡ look_at k i false → y ≡ look_at k i true
      → ((S : System) → TablesTell n sets' looks ranks S → (p : Plan) × Written S x p × (r ≡ length (encode p)))
      → ((S : System) → TablesTell n sets' looks ranks S → (p : Plan) × Written S y p × (s ≡ length (encode p)))
      → (S : System) → TablesTell n sets' looks ranks S → (p : Plan) × Written S k p × (1 + r + s ≡ length (encode p))
  look_plan {i} {q} c e d f g S t =
      let a = f S t in let b = g S t in (
        look_then i q a.0 b.0,
        (c S t, subst (λ (z : ℕ). Written S z a.0) e a.1, subst (λ (z : ℕ). Written S z b.0) d b.1),
        omega (arith, a.2, b.2, length-append (encode a.0) (encode b.0)),
      )

-- ---- the bytes in the room

encode-some : (p : Plan) → 0 < length (encode p)
encode-some stop = omega arith
encode-some (set_then i q b p) = omega arith
encode-some (look_then i q p r) = omega arith

-- a set's byte, and what follows it
sets-byte : (room : List ℕ) (at v : ℕ) (vs : List ℕ) {w : ℕ} → w ≡ v → sets (set room at w) (at + 1) vs ≡ sets room at (v ∷ vs)
sets-byte room at v vs e = ap₂ (λ (x i : ℕ). sets (set room at x) i vs) e (add-one at)

module _ {n : ℕ} {sets' looks : List (List ℕ)} {ranks : List ℕ} {k : ℕ} (from : Ranked n sets' looks ranks k) where
  -- the room has a byte for the step
  pub room-here : {at end : ℕ} → PlanFits n sets' looks ranks k at end → at < end
  room-here room =
      let p = written_exists from.told.law from.few k (get_or ranks k 0) (from.told.ranked k from.state) from.finite in
      omega (arith, room from.system from.told p.0 p.1, encode-some p.0)

  module _ {i q : ℕ} {b : Bool} (c : (S : System) → TablesTell n sets' looks ranks S → Chosen S k (Set i q b)) where
    pub room-set : {x : ℕ} (at end : ℕ) → x ≡ set_to k i b → PlanFits n sets' looks ranks k at end → PlanFits n sets' looks ranks x (at + 1) end
    room-set at end e room S t p w = omega (arith, room S t (set_then i q b p) (c S t, subst (λ (z : ℕ). Written S z p) e w))

    pub set-written : {x r at byte : ℕ} {room last : List ℕ} → x ≡ set_to k i b → byte ≡ byte_of (Set i q b)
        → ((S : System) → TablesTell n sets' looks ranks S → (p : Plan) × Written S x p × (last ≡ sets (set room at byte) (at + 1) (encode p)) × (r ≡ at + 1 + length (encode p)))
        → (S : System) → TablesTell n sets' looks ranks S → (p : Plan) × Written S k p × (last ≡ sets room at (encode p)) × (r ≡ at + length (encode p))
    set-written {at = at} {room = room} e d f S t =
        let y = f S t in
        (set_then i q b y.0, (c S t, subst (λ (z : ℕ). Written S z y.0) e y.1), y.2 ∙ sets-byte room at (byte_of (Set i q b)) (encode y.0) d, omega (arith, y.3))

  module _ {i q : ℕ} (c : (S : System) → TablesTell n sets' looks ranks S → Chosen S k (Look i q)) where
    other : (S : System) → TablesTell n sets' looks ranks S → (p : Plan) × Written S (look_at k i true) p
    other S t =
        let h = look_below k i true n from.state (chosen_setting t (c S t)) in
        let l : get_or ranks (look_at k i true) 0 < get_or ranks k 0 = (chosen_lower t from.state (c S t)).lower (look_at k i true) (after_look i q true) in
        written_exists t.law t.few (look_at k i true) (get_or ranks (look_at k i true) 0) (t.ranked (look_at k i true) h) (omega (arith, from.finite))

    pub room_false : {x : ℕ} (at end : ℕ) → x ≡ look_at k i false → PlanFits n sets' looks ranks k at end → PlanFits n sets' looks ranks x (at + 1) end
    room_false at end e room S t p w =
        let r = other S t in
        omega (arith, room S t (look_then i q p r.0) (c S t, subst (λ (z : ℕ). Written S z p) e w, r.1), length-append (encode p) (encode r.0))

    pub room_true : {x y next : ℕ} {last : List ℕ} (at end byte : ℕ) (before : List ℕ) → x ≡ look_at k i false → y ≡ look_at k i true
        → ((S : System) → TablesTell n sets' looks ranks S → (p : Plan) × Written S x p × (last ≡ sets (set before at byte) (at + 1) (encode p)) × (next ≡ at + 1 + length (encode p)))
        → PlanFits n sets' looks ranks k at end → PlanFits n sets' looks ranks y next end
    room_true at end byte before e d f room S t r w =
        let a = f S t in
        omega (arith, room S t (look_then i q a.0 r) (c S t, subst (λ (z : ℕ). Written S z a.0) e a.1, subst (λ (z : ℕ). Written S z r) d w), a.3, length-append (encode a.0) (encode r))

    pub look_written : {x y r s at byte : ℕ} {room between last : List ℕ} → x ≡ look_at k i false → y ≡ look_at k i true → byte ≡ byte_of (Look i q)
        → ((S : System) → TablesTell n sets' looks ranks S → (p : Plan) × Written S x p × (between ≡ sets (set room at byte) (at + 1) (encode p)) × (r ≡ at + 1 + length (encode p)))
        → ((S : System) → TablesTell n sets' looks ranks S → (p : Plan) × Written S y p × (last ≡ sets between r (encode p)) × (s ≡ r + length (encode p)))
        → (S : System) → TablesTell n sets' looks ranks S → (p : Plan) × Written S k p × (last ≡ sets room at (encode p)) × (s ≡ at + length (encode p))
    look_written {at = at} {byte = byte} {room = room} e d v f g S t =
        let a = f S t in let b = g S t in (
          look_then i q a.0 b.0,
          (c S t, subst (λ (z : ℕ). Written S z a.0) e a.1, subst (λ (z : ℕ). Written S z b.0) d b.1),
          b.2 ∙ ap₂ (λ (l : List ℕ) (j : ℕ). sets l j (encode b.0)) a.2 a.3 ∙ sym (sets-append (set room at byte) (at + 1) (encode a.0) (encode b.0))
              ∙ sets-byte room at (byte_of (Look i q)) (encode a.0 ++ encode b.0) v,
          omega (arith, a.3, b.3, length-append (encode a.0) (encode b.0)),
        )
