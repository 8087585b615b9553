-- Ranks and the plan written by computation, for a question that is written out: a list of states that acts do not leave, with a
-- rank for each, is tested entry by entry, and so is a plan against it. No search: the certificate and the table's choice do it.
use mathlib.Core.Logic.{inl, inr}
use mathlib.Core.List.{List, [], ◌∷◌}
use mathlib.Core.Bool.{Bool, true, false, ◌&&◌, ◌||◌}
use Prim.Native.Nat.{ℕ, suc, max, ◌≤◌, ◌<◌}
use native.Mathlib.Omega.{arith}
use lib.Dec.{T, eqb, leb, ltb, eqb→eq, leb→le, ltb→lt, lt→ltb}
use Rattle.ground.proofs.Bools.{and_left, and_right, or_out}
use Rattle.knowledge_acts.specs.Acts.{byte_of, set_to, look_at}
use Rattle.knowledge_acts.specs.declared.act.Act.{Act}
use Rattle.knowledge_acts.specs.declared.act.Act.TheVariants.{Set, Look}
use Rattle.knowledge.specs.Fits.{implies}
use Rattle.plan.specs.Plans.{System, may, Lawful, Outcome, after_set_case, after_look, Plan, stop, set_then, look_then}
use Rattle.plan.specs.Ranks.{IsRank, Chosen, Written}
use Rattle.plan.specs.Certificate.{Leads, Certified}
use Rattle.plan.specs.Layers.{leads, can, some_act}
use Rattle.plan.proofs.Acts.{leads_to, some_out, every_act, every_at, can_in, can-may, can-at}
use Rattle.plan.proofs.States.{elem, each, each_at, holds}
use Rattle.plan.proofs.Certificate.{Closed, certified}
use Rattle.plan.proofs.Table.{chosen}

-- the entry of a state: ranks beside the states, 255 where a state has none
unfoldable pub entry : List ℕ → List ℕ → ℕ → ℕ
entry [] rs k = 255
entry (x ∷ ks) [] k = 255
entry (x ∷ ks) (r ∷ rs) k = elim (eqb k x) [ true ↦ r | false ↦ entry ks rs k ]

-- the act may be done at k, to outcomes with entries below h
abbrev pub drops : System → (ℕ → ℕ) → ℕ → ℕ → Act → Bool
drops S table k h a = can S (λ x. ltb (table x) h) k a

-- the highest entry of the act's outcomes
abbrev pub top : (ℕ → ℕ) → ℕ → Act → ℕ
top table k (Set i q b) = table (set_to k i b)
top table k (Look i q) = max (table (look_at k i false)) (table (look_at k i true))

-- an act at k leads to states of the list, and gives no lower entry
abbrev pub minds : System → List ℕ → (ℕ → ℕ) → ℕ → Act → Bool
minds S ks table k a = implies (may S k a) (leads (λ x. elem x ks) k a && leb (table k) (suc (top table k a)))

-- the four clauses of the certificate at k
abbrev pub clauses : ℕ → System → List ℕ → (ℕ → ℕ) → ℕ → Bool
clauses n S ks table k =
    leb (table k) 255
    && (implies (S.goal k) (eqb (table k) 0)
    && (implies (ltb (table k) 255) (S.goal k || some_act n (drops S table k (table k))) && every_act n (minds S ks table k)))

-- the entries of the states are their ranks: who names it on an `unfolding` line unfolds all of it, so that the test computes
unfoldable pub ranked : ℕ → System → List ℕ → (ℕ → ℕ) → Bool
unfolding each elem some_act every_act entry
ranked n S ks table = each (clauses n S ks table) ks

-- an act with a byte no larger than that of the act a, or one that does not lower the entry
abbrev pub no_smaller : System → (ℕ → ℕ) → ℕ → Act → Act → Bool
no_smaller S table k a c = implies (drops S table k (table k) c) (leb (byte_of a) (byte_of c))

abbrev pub chooses : ℕ → System → (ℕ → ℕ) → ℕ → Act → Bool
chooses n S table k a = drops S table k (table k) a && every_act n (no_smaller S table k a)

-- the plan is the one written from k, by the table
unfoldable pub writes : ℕ → System → (ℕ → ℕ) → Plan → ℕ → Bool
unfolding every_act entry
writes n S table stop k = eqb (table k) 0
writes n S table (set_then i q b p) k = chooses n S table k (Set i q b) && writes n S table p (set_to k i b)
writes n S table (look_then i q p r) k =
    chooses n S table k (Look i q) && (writes n S table p (look_at k i false) && writes n S table r (look_at k i true))

all_four : (a b c d : Bool) → T (a && (b && (c && d))) → T a × T b × T c × T d
all_four true true true true h = (tt, tt, tt, tt)
all_four true true true false h = absurd h
all_four true true false d h = absurd h
all_four true false c d h = absurd h
all_four false b c d h = absurd h

module _ {n : ℕ} {S : System} (ks : List ℕ) (table : ℕ → ℕ) (law : Lawful n S) (few : n ≤ 7) (t : T (ranked n S ks table)) where
  abbrev Has : ℕ → Type 0
  Has k = T (elem k ks)

  drops_in : (k h : ℕ) (a : Act) → Leads S table k h a → T (drops S table k h a)
  drops_in k h a l = can_in S (λ x. ltb (table x) h) k a l.allowed (λ x o. lt→ltb (table x) h (l.lower x o))

  drops_out : (k h : ℕ) (a : Act) → T (drops S table k h a) → Leads S table k h a
  drops_out k h a d = record {
    allowed = can-may S (λ x. ltb (table x) h) k a d;
    lower = λ x o. ltb→lt (table x) h (can-at S (λ x. ltb (table x) h) k a d o);
  }

  four : (k : ℕ) → Has k
      → T (leb (table k) 255) × T (implies (S.goal k) (eqb (table k) 0))
      × T (implies (ltb (table k) 255) (S.goal k || some_act n (drops S table k (table k)))) × T (every_act n (minds S ks table k))
  unfolding ranked
  four k m =
      all_four (leb (table k) 255) (implies (S.goal k) (eqb (table k) 0))
      (implies (ltb (table k) 255) (S.goal k || some_act n (drops S table k (table k)))) (every_act n (minds S ks table k))
      (each_at (clauses n S ks table) ks k t m)

  -- what an act at a state of the list comes to
  minded : (k : ℕ) (a : Act) → Has k → T (may S k a) → T (leads (λ x. elem x ks) k a) × (table k ≤ suc (top table k a))
  minded k a m h =
      let r = holds (may S k a) (leads (λ x. elem x ks) k a && leb (table k) (suc (top table k a))) h
      (every_at n (minds S ks table k) a (four k m).3 (law.setting_of_case k a h) (law.post_of_case k a h)) in (
        and_left (leads (λ x. elem x ks) k a) (leb (table k) (suc (top table k a))) r,
        leb→le (table k) (suc (top table k a)) (and_right (leads (λ x. elem x ks) k a) (leb (table k) (suc (top table k a))) r),
      )

  top_lt : (k h : ℕ) (a : Act) → ((x : ℕ) → Outcome k a x → table x < h) → top table k a < h
  top_lt k h (Set i q b) f = f (set_to k i b) (after_set_case i q b)
  top_lt k h (Look i q) f = omega (arith, f (look_at k i false) (after_look i q false), f (look_at k i true) (after_look i q true))

  closed : Closed S Has
  closed k x a m h o = leads_to (λ x. elem x ks) (minded k a m h).0 o

  is_certified : Certified Has S table
  is_certified = record {
    most = λ k m. leb→le (table k) 255 (four k m).0;
    settled = λ k m g. eqb→eq (table k) 0 (holds (S.goal k) (eqb (table k) 0) g (four k m).1);
    reached = λ k m l. elim (or_out (S.goal k) (some_act n (drops S table k (table k)))
        (holds (ltb (table k) 255) (S.goal k || some_act n (drops S table k (table k))) (lt→ltb (table k) 255 l) (four k m).2)) [
          | inl g ↦ inl g
          | inr s ↦ (let r = some_out n (drops S table k (table k)) s in inr (r.0, drops_out k (table k) r.0 r.1))
        ];
    least = λ k m a h l. omega (arith, (minded k a m l.allowed).1, top_lt k h a l.lower);
  }

  -- each state's entry is its rank
  pub sample_rank : (k : ℕ) → T (elem k ks) → IsRank S k (table k)
  sample_rank k m = certified law closed is_certified few k m

  picked : (k : ℕ) (a : Act) → Has k → T (chooses n S table k a) → Chosen S k a
  picked k a m c =
      let d = and_left (drops S table k (table k) a) (every_act n (no_smaller S table k a)) c in
      let s = and_right (drops S table k (table k) a) (every_act n (no_smaller S table k a)) c in
      chosen closed sample_rank k a m (drops_out k (table k) a d)
      (λ c l. leb→le (byte_of a) (byte_of c) (holds (drops S table k (table k) c) (leb (byte_of a) (byte_of c)) (drops_in k (table k) c l)
      (every_at n (no_smaller S table k a) c s (law.setting_of_case k c l.allowed) (law.post_of_case k c l.allowed))))

  -- the plan tested is the plan written
  pub sample_written : (p : Plan) (k : ℕ) → T (elem k ks) → T (writes n S table p k) → Written S k p
  unfolding writes
  sample_written stop k m w = rw (eqb→eq (table k) 0 w) at (sample_rank k m)
  sample_written (set_then i q b p) k m w =
      let c = picked k (Set i q b) m (and_left (chooses n S table k (Set i q b)) (writes n S table p (set_to k i b)) w) in (
        c,
        sample_written p (set_to k i b) (closed k (set_to k i b) (Set i q b) m c.lowers.allowed (after_set_case i q b))
            (and_right (chooses n S table k (Set i q b)) (writes n S table p (set_to k i b)) w),
      )
  sample_written (look_then i q p r) k m w =
      let both = and_right (chooses n S table k (Look i q)) (writes n S table p (look_at k i false) && writes n S table r (look_at k i true)) w in
      let c = picked k (Look i q) m (and_left (chooses n S table k (Look i q)) (writes n S table p (look_at k i false) && writes n S table r (look_at k i true)) w) in (
        c,
        sample_written p (look_at k i false) (closed k (look_at k i false) (Look i q) m c.lowers.allowed (after_look i q false))
            (and_left (writes n S table p (look_at k i false)) (writes n S table r (look_at k i true)) both),
        sample_written r (look_at k i true) (closed k (look_at k i true) (Look i q) m c.lowers.allowed (after_look i q true))
            (and_right (writes n S table p (look_at k i false)) (writes n S table r (look_at k i true)) both),
      )
