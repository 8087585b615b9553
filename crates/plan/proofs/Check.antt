-- The check accepts exactly the bytes of working plans: a byte that reads well is a stop with the goal, or an act that may be done,
-- and leaves its outcomes pending, so bytes are accepted where they are one plan's for each pending state, one after the other.
use mathlib.Core.Path.{◌≡◌, refl, sym, ap, ap₂, ◌∙◌}
use mathlib.Core.Logic.{◌↔◌}
use mathlib.Core.List.{List, [], ◌∷◌, ◌++◌, append_assoc, append-nil}
use mathlib.Core.Bool.{Bool, true, false, not}
use Prim.Native.Nat.{ℕ, zero, suc, ◌+◌, ◌≤◌, ◌<◌}
use native.Mathlib.Omega.{arith}
use lib.Dec.{T}
use lib.ListN.{length, length-append}
use Rattle.ground.proofs.Bools.{T→true, T→false, true→T, and_in, and_left, and_right}
use Rattle.knowledge_acts.specs.Acts.{byte_of, act_of, set_to, look_at}
use Rattle.knowledge_acts.specs.declared.act.Act.{Act}
use Rattle.knowledge_acts.specs.declared.act.Act.TheVariants.{Set, Look}
use Rattle.std.proofs.Common.{Option, Some, None}
use Rattle.refusal.specs.declared.Why.{Why}
use Rattle.plan.specs.declared.Permit.{Permit}
use Rattle.plan.specs.declared.Permit.TheVariants.{Given, Denied, ChangesNothing}
use Rattle.plan.specs.Plans.{System, given, may, Lawful, Plan, stop, set_then, look_then, Works}
use Rattle.plan.specs.Bytes.{encode}
use Rattle.plan.specs.Check.{Fault, no_act, not_permitted, changes_nothing_case, not_settled, Verdict, accepted, faulty, Reading, goes_on, fails, outcomes, read_act, read_named, read_stop, read_byte, judge, check}
use Rattle.knowledge_acts.proofs.Acts.{act_of_byte}
use Rattle.plan.proofs.Bytes.{byte_of_act, byte_positive}

given-only : (p : Permit) → T (given p) → p ≡ Given
given-only Given t = refl
given-only (Denied why) t = absurd t
given-only ChangesNothing t = absurd t

module _ (S : System) (k : ℕ) where
  -- what a byte comes to, case by case
  pub read-stop : T (S.goal k) → read_byte S k 0 ≡ goes_on []
  read-stop g = rw (T→true (S.goal k) g)

  pub read-unsettled : T (not (S.goal k)) → read_byte S k 0 ≡ fails not_settled
  read-unsettled g = rw (T→false (S.goal k) g)

  pub read_named_lem : (c : ℕ) → 0 < c → read_byte S k c ≡ read_named S k (act_of c)
  read_named_lem zero h = absurd (omega arith)
  read_named_lem (suc c) h = refl

  pub read_nothing : (c : ℕ) → 0 < c → act_of c ≡ None → read_byte S k c ≡ fails no_act
  read_nothing c h e = read_named_lem c h ∙ rw e

  pub read-other : (c : ℕ) (a : Act) → 0 < c → act_of c ≡ Some a → T (not (S.offers a)) → read_byte S k c ≡ fails no_act
  read-other c a h e o = read_named_lem c h ∙ rw (e, T→false (S.offers a) o)

  pub read_forbidden : (c : ℕ) (a : Act) (why : Why) → 0 < c → act_of c ≡ Some a → T (S.offers a) → S.permits k a ≡ Denied why
      → read_byte S k c ≡ fails (not_permitted why)
  read_forbidden c a why h e o p = read_named_lem c h ∙ rw (e, T→true (S.offers a) o, p)

  pub read_idle : (c : ℕ) (a : Act) → 0 < c → act_of c ≡ Some a → T (S.offers a) → S.permits k a ≡ ChangesNothing
      → read_byte S k c ≡ fails changes_nothing_case
  read_idle c a h e o p = read_named_lem c h ∙ rw (e, T→true (S.offers a) o, p)

  pub read_act_lem : (c : ℕ) (a : Act) → 0 < c → act_of c ≡ Some a → T (may S k a) → read_byte S k c ≡ goes_on (outcomes k a)
  read_act_lem c a h e m =
      read_named_lem c h
      ∙ rw (
        e,
        T→true (S.offers a) (and_left (S.offers a) (given (S.permits k a)) m),
        given-only (S.permits k a) (and_right (S.offers a) (given (S.permits k a)) m),
      )

  -- a byte that reads well is a stop with the goal, or an act that may be done
  pub data Good : ℕ → List ℕ → Type 0 where
    good_stop : T (S.goal k) → Good 0 []
    good_act : (c : ℕ) (a : Act) → 0 < c → act_of c ≡ Some a → T (may S k a) → Good c (outcomes k a)

  named_good : (c : ℕ) (x : Option Act) (new : List ℕ) → 0 < c → act_of c ≡ x → read_named S k x ≡ goes_on new → Good c new
  named_good c None new h e r = absurd cc
  named_good c (Some a) new h e r = go (S.offers a) (S.permits k a) refl refl r
    where
      go : (o : Bool) (p : Permit) → S.offers a ≡ o → S.permits k a ≡ p → read_act o p (outcomes k a) ≡ goes_on new → Good c new
      go false p eo ep s = absurd cc
      go true (Denied why) eo ep s = absurd cc
      go true ChangesNothing eo ep s = absurd cc
      go true Given eo ep s =
          let same : outcomes k a ≡ new = cc in
          rw (← same) (good_act c a h e (and_in (S.offers a) (given (S.permits k a)) (true→T eo) (true→T (ap given ep))))

  stop_good : (g : Bool) (new : List ℕ) → S.goal k ≡ g → read_stop g ≡ goes_on new → Good 0 new
  stop_good false new e r = absurd cc
  stop_good true new e r = let same : ◌≡◌ {A = List ℕ} [] new = cc in rw (← same) (good_stop (true→T e))

  pub read_good : (c : ℕ) (new : List ℕ) → read_byte S k c ≡ goes_on new → Good c new
  read_good zero new r = stop_good (S.goal k) new refl r
  read_good (suc c) new r = named_good (suc c) (act_of (suc c)) new (omega arith) refl r

-- the judgement goes on, or ends in a fault
after : System → Reading → List ℕ → ℕ → List ℕ → Verdict
after S (goes_on new) ks at cs = judge S (new ++ ks) (suc at) cs
after S (fails f) ks at cs = faulty f at

judge-after : (S : System) (k : ℕ) (ks : List ℕ) (at c : ℕ) (cs : List ℕ) → judge S (k ∷ ks) at (c ∷ cs) ≡ after S (read_byte S k c) ks at cs
unfolding after
judge-after S k ks at c cs = go (read_byte S k c)
  where
    go : (r : Reading) → elim r [ goes_on new ↦ judge S (new ++ ks) (suc at) cs | fails f ↦ faulty f at ] ≡ after S r ks at cs
    go (goes_on new) = refl
    go (fails f) = refl

module _ (S : System) (k : ℕ) (ks : List ℕ) (at c : ℕ) (cs : List ℕ) where
  pub judge-on : (new : List ℕ) → read_byte S k c ≡ goes_on new → judge S (k ∷ ks) at (c ∷ cs) ≡ judge S (new ++ ks) (suc at) cs
  unfolding after
  judge-on new e = judge-after S k ks at c cs ∙ ap (λ (r : Reading). after S r ks at cs) e

  pub judge-fails : (f : Fault) → read_byte S k c ≡ fails f → judge S (k ∷ ks) at (c ∷ cs) ≡ faulty f at
  unfolding after
  judge-fails f e = judge-after S k ks at c cs ∙ ap (λ (r : Reading). after S r ks at cs) e

-- each state of the list has a working plan, and the bytes are those of the plans, one after the other
abbrev pub Plans : System → List ℕ → List ℕ → Type 0
Plans S [] bytes = bytes ≡ []
Plans S (k ∷ ks) bytes = (p : Plan) × Works S k p × ((rest : List ℕ) × (bytes ≡ encode p ++ rest) × Plans S ks rest)

-- the plan's bytes before others: the other states are still pending
module _ {n : ℕ} {S : System} (law : Lawful n S) (few : n ≤ 7) where
  read-allowed : (k : ℕ) (a : Act) → T (may S k a) → read_byte S k (byte_of a) ≡ goes_on (outcomes k a)
  read-allowed k a m =
      read_act_lem S k (byte_of a) a (byte_positive a) (act_of_byte a (omega (arith, law.setting_of_case k a m)) (law.post_of_case k a m)) m

  pub judge-plan : (p : Plan) (k : ℕ) (ks : List ℕ) (at : ℕ) (rest : List ℕ) → Works S k p
      → judge S (k ∷ ks) at (encode p ++ rest) ≡ judge S ks (at + length (encode p)) rest
  judge-plan stop k ks at rest w =
      judge-on S k ks at 0 rest [] (read-stop S k w) ∙ ap (λ (i : ℕ). judge S ks i rest) (omega arith)
  judge-plan (set_then i q b p) k ks at rest w =
      judge-on S k ks at (byte_of (Set i q b)) (encode p ++ rest) (outcomes k (Set i q b)) (read-allowed k (Set i q b) w.0)
      ∙ judge-plan p (set_to k i b) ks (suc at) rest w.1
      ∙ ap (λ (i : ℕ). judge S ks i rest) (omega arith)
  judge-plan (look_then i q p r) k ks at rest w =
      judge-on S k ks at (byte_of (Look i q)) (encode p ++ encode r ++ rest) (outcomes k (Look i q)) (read-allowed k (Look i q) w.0)
      ∙ ap (λ (l : List ℕ). judge S (look_at k i false ∷ look_at k i true ∷ ks) (suc at) l) (append_assoc (encode p) (encode r) rest)
      ∙ judge-plan p (look_at k i false) (look_at k i true ∷ ks) (suc at) (encode r ++ rest) w.1
      ∙ judge-plan r (look_at k i true) ks (suc at + length (encode p)) rest w.2
      ∙ ap (λ (i : ℕ). judge S ks i rest) (simp length-append (omega arith))

  pub accepts_in : (ks : List ℕ) (at : ℕ) (bytes : List ℕ) → Plans S ks bytes → judge S ks at bytes ≡ accepted
  accepts_in [] at bytes e = rw e
  accepts_in (k ∷ ks) at bytes (p, w, (rest, e, more)) =
      rw e (judge-plan p k ks at rest w ∙ accepts_in ks (at + length (encode p)) rest more)

-- a byte that reads well, and the plans of the states that it leaves
grow : (S : System) (k c : ℕ) (new ks cs : List ℕ) → Good S k c new → Plans S (new ++ ks) cs → Plans S (k ∷ ks) (c ∷ cs)
grow S k c new ks cs (good_stop g) w = (stop, g, (cs, refl, w))
grow S k c new ks cs (good_act c₁ (Set i q b) h e m) (p, w, (rest, f, more)) =
    (set_then i q b p, (m, w), (rest, ap₂ ◌∷◌ (sym (byte_of_act c (Set i q b) e).0) f, more))
grow S k c new ks cs (good_act c₁ (Look i q) h e m) (p, w, (rest, f, (r, x, (last, g, more)))) = (
  look_then i q p r,
  (m, w, x),
  (
    last,
    ap₂ ◌∷◌ (sym (byte_of_act c (Look i q) e).0) (f ∙ ap (λ (l : List ℕ). encode p ++ l) g ∙ sym (append_assoc (encode p) (encode r) last)),
    more,
  ),
)

pub accepts_out : (S : System) (bytes ks : List ℕ) (at : ℕ) → judge S ks at bytes ≡ accepted → Plans S ks bytes
accepts_out S [] [] at e = refl
accepts_out S [] (k ∷ ks) at e = absurd cc
accepts_out S (c ∷ cs) [] at e = absurd cc
accepts_out S (c ∷ cs) (k ∷ ks) at e =
    go (λ new. accepts_out S cs (new ++ ks) (suc at)) (read_byte S k c) refl
  where
    go : ((new : List ℕ) → judge S (new ++ ks) (suc at) cs ≡ accepted → Plans S (new ++ ks) cs) → (r : Reading) → read_byte S k c ≡ r → Plans S (k ∷ ks) (c ∷ cs)
    go below (goes_on new) r = grow S k c new ks cs (read_good S k c new r) (below new (sym (judge-on S k ks at c cs new r) ∙ e))
    go below (fails f) r = absurd (let z : ◌≡◌ {A = Verdict} (faulty f at) accepted = sym (judge-fails S k ks at c cs f r) ∙ e in let y : ◌≡◌ {A = ℕ} 0 1 = cc in omega arith)

-- the check says yes exactly where the bytes are those of a plan that works
pub check_exact : {n : ℕ} {S : System} (law : Lawful n S) (few : n ≤ 7) (k : ℕ) (bytes : List ℕ)
    → check S k bytes ≡ accepted ↔ ((p : Plan) × Works S k p × (bytes ≡ encode p))
check_exact {n} {S} law few k bytes = (
  λ e. let (p, w, (rest, f, z)) = accepts_out S bytes (k ∷ []) 0 e in (p, w, f ∙ ap (λ (l : List ℕ). encode p ++ l) z ∙ append-nil (encode p)),
  λ (p, w, f). accepts_in law few (k ∷ []) 0 bytes (p, w, ([], f ∙ sym (append-nil (encode p)), refl)),
)
