-- A table of ranks chooses the plan written: its entries say which acts lower the rank.
use Prim.Native.Nat.{ℕ, ◌≤◌}
use native.Mathlib.Omega.{arith}
use Rattle.knowledge_acts.specs.Acts.{byte_of}
use Rattle.knowledge_acts.specs.declared.act.Act.{Act}
use Rattle.plan.specs.Plans.{System}
use Rattle.plan.specs.Ranks.{IsRank, Lowers, Chosen}
use Rattle.plan.specs.Certificate.{Leads}
use Rattle.plan.proofs.Certificate.{Closed}
use Rattle.plan.proofs.Ranks.{rank_unique}

-- a table of ranks, on states that acts do not leave
module _ {S : System} {Has : ℕ → Type 0} {table : ℕ → ℕ} (closed : Closed S Has) (ranks : (k : ℕ) → Has k → IsRank S k (table k)) where
  -- an act lowers the rank exactly where the table's entries say so
  pub lowers_in : (k h : ℕ) (a : Act) → Has k → Leads S table k h a → Lowers S k h a
  lowers_in k h a b l = record {
    allowed = l.allowed;
    lower = λ x o. (table x, ranks x (closed k x a b l.allowed o), l.lower x o);
  }

  pub lowers_out : (k h : ℕ) (a : Act) → Has k → Lowers S k h a → Leads S table k h a
  lowers_out k h a b l = record {
    allowed = l.allowed;
    lower = λ x o. let r = l.lower x o in omega (arith, r.2, rank_unique S x r.1 (ranks x (closed k x a b l.allowed o)));
  }

  -- the act that the plan written takes, chosen by the table
  pub chosen : (k : ℕ) (a : Act) → Has k → Leads S table k (table k) a → ((c : Act) → Leads S table k (table k) c → byte_of a ≤ byte_of c) → Chosen S k a
  chosen k a b l small = record {
    rank = table k;
    is_rank = ranks k b;
    lowers = lowers_in k (table k) a b l;
    smallest = λ c m. small c (lowers_out k (table k) c b m);
  }
