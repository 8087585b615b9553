-- No more than n states wait while a plan is read: a look gives its two outcomes one unknown setting less, which pays for the one
-- more that waits.
use mathlib.Core.Path.{◌≡◌}
use mathlib.Core.List.{List, [], ◌∷◌, ◌++◌}
use mathlib.Core.Bool.{Bool, true, false}
use Prim.Native.Nat.{ℕ, ◌+◌, ◌≤◌}
use native.Mathlib.Omega.{arith}
use lib.Dec.{T}
use lib.ListN.{length}
use Rattle.knowledge_acts.specs.Acts.{set_to, look_at}
use Rattle.knowledge_acts.specs.declared.act.Act.TheVariants.{Set, Look}
use Rattle.knowledge_acts.specs.declared.act.Act.{Act}
use Rattle.plan.specs.Plans.{System, may, Lawful}
use Rattle.plan.specs.Check.{outcomes}
use Rattle.plan.specs.Pending.{unknowns, Pending}
use Rattle.plan.proofs.Unknowns.{unknowns_le, unknowns-set, unknowns_look}
use Rattle.plan.proofs.Check.{Good, good_stop, good_act, read_good}
use Rattle.plan.proofs.Faults.{Reads, nothing, one_more}

pub pending-first : (n k : ℕ) → Pending n k []
pending-first n k = (omega (arith, unknowns_le n k), tt)

pub pending-most : (n k : ℕ) (ks : List ℕ) → Pending n k ks → length ks ≤ n
pending-most n k ks p = omega (arith, p.0)

-- after a stop the next one waiting is read at
pub pending-stop : (n k x : ℕ) (ks : List ℕ) → Pending n k (x ∷ ks) → Pending n x ks
pending-stop n k x ks p = (omega (arith, p.1.0), p.1.1)

module _ {n : ℕ} {S : System} (law : Lawful n S) where
  pub pending-set : (k i q : ℕ) (b : Bool) (ks : List ℕ) → T (may S k (Set i q b)) → Pending n k ks → Pending n (set_to k i b) ks
  pending-set k i q b ks m p = (omega (arith, p.0, unknowns-set n k i b (law.setting_of_case k (Set i q b) m)), p.1)

  pub pending_look : (k i q : ℕ) (ks : List ℕ) → T (may S k (Look i q)) → Pending n k ks → Pending n (look_at k i false) (look_at k i true ∷ ks)
  pending_look k i q ks m p =
      (omega (arith, p.0, less false), (omega (arith, p.0, less true), p.1))
    where
      less : (b : Bool) → unknowns n (look_at k i b) + 1 ≡ unknowns n k
      less b = unknowns_look n k i b (law.setting_of_case k (Look i q) m) (law.looks_at k i q m)

  -- the same for whatever byte reads well
  abbrev AllPending : List ℕ → Type 0
  AllPending [] = Unit
  AllPending (k ∷ ks) = Pending n k ks

  after_act : (k : ℕ) (a : Act) (ks : List ℕ) → T (may S k a) → Pending n k ks → AllPending (outcomes k a ++ ks)
  after_act k (Set i q b) ks m p = pending-set k i q b ks m p
  after_act k (Look i q) ks m p = pending_look k i q ks m p

  after_stop : (k : ℕ) (ks : List ℕ) → Pending n k ks → AllPending ks
  after_stop k [] p = tt
  after_stop k (x ∷ ks) p = pending-stop n k x ks p

  after-byte : (k c : ℕ) (new ks : List ℕ) → Good S k c new → Pending n k ks → AllPending (new ++ ks)
  after-byte k c new ks (good_stop g) p = after_stop k ks p
  after-byte k c new ks (good_act c₁ a h e m) p = after_act k a ks m p

  kept : {ks before last : List ℕ} → Reads S ks before last → AllPending ks → AllPending last
  kept nothing p = p
  kept (one_more {k = k} {c = c} {ks = ks} {new = new} r more) p = kept more (after-byte k c new ks (read_good S k c new r) p)

  -- wherever the reading of a plan has come to, no more than n states wait
  pub never-more : (k x : ℕ) (before ks : List ℕ) → Reads S (k ∷ []) before (x ∷ ks) → length ks ≤ n
  never-more k x before ks r = pending-most n x ks (kept r (pending-first n k))
