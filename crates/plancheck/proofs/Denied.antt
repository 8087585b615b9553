-- 18 exactly, with its second number: "0 for a look at a known setting, 1 surely false, 2 not known, judged in that order"; and for a set of a held
-- setting 3, "judged first". And 32 exactly: "with the index, after 18 at the same byte". Each from what is said of an act in the request's words.
use mathlib.Core.Path.{◌≡◌, refl, subst}
use mathlib.Core.Logic.{◌↔◌}
use mathlib.Core.List.{List, [], ◌∷◌, ◌++◌}
use Prim.Native.Nat.{ℕ, ◌≤◌}
use lib.Dec.{T}
use lib.ListN.{length}
use Rattle.ground.specs.Digits.{digit}
use Rattle.refusal.specs.declared.Why.{Why}
use Rattle.refusal.specs.declared.Refusal.{Refusal}
use Rattle.refusal.specs.declared.Refusal.TheVariants.{NotPermitted, ChangesNothing}
use Rattle.knowledge_acts.specs.Acts.{act_of, offered}
use Rattle.knowledge_acts.specs.declared.act.Act.{Act}
use Rattle.std.proofs.Common.{Some, Result, Err}
use Rattle.knowledge.specs.Goal.{Goal}
use Rattle.plan.specs.Plans.{System}
use Rattle.plan.specs.declared.Permit.{Permit}
use Rattle.plan.specs.declared.Permit.TheVariants.{Denied, ChangesNothing as NothingSaid}
use Rattle.plan.specs.Check.{Fault, not_permitted, changes_nothing_case, too_soon, left_over}
use Rattle.plan.proofs.Faults.{Reads, Wrong}
use Rattle.plan.proofs.Faults as Faults
use Rattle.question.specs.Question.{system_of, start_of}
use Rattle.question.specs.Asks.{ValidQuestion}
use Rattle.question.specs.declared.Question.{Question}
use Rattle.question.specs.Permitted.{permitted}
use Rattle.question.proofs.WhyLaws.{WhyNot, why_exactly}
use Rattle.question.proofs.NothingLaws.{NothingHere, nothing_exactly}
use Rattle.plancheck.specs.Checks.{Checks}
use Rattle.plancheck.specs.Refusals.{refusal_of}
use Rattle.plancheck.proofs.ByteLaws.{FaultAt, fault_means}
use Rattle.plancheck.proofs.Theorems.{fault_exact}

-- all bytes before the one with index i read without a fault; it names an act of the book and team, and at the state that the reading has come to,
-- with its digits, this holds of the act
pub record ActAt (n : ℕ) (book : List ℕ) (q : Question) (goal : Goal) (plan : List ℕ) (i : ℕ) (Holds : (ℕ → ℕ) → Act → Type 0) : Type 0 where
  pub before : List ℕ
  pub byte : ℕ
  pub after : List ℕ
  pub split : plan ≡ before ++ byte ∷ after
  pub index : i ≡ length before
  pub k : ℕ
  pub waiting : List ℕ
  pub reads : Reads (system_of n book q goal) (start_of q ∷ []) before (k ∷ waiting)
  pub act : Act
  pub named : act_of byte ≡ Some act
  pub ours : T (offered n q.team act)
  pub holds : Holds (digit 7 k) act

-- an act that is not permitted, for this reason
abbrev pub DeniedAt : ℕ → List ℕ → Question → Goal → List ℕ → ℕ → Why → Type 0
DeniedAt n book q goal plan i why = ActAt n book q goal plan i (λ d a. WhyNot n book q.held d a why)

-- an act that would be permitted, but sets the value that the team knows is there
abbrev pub NothingAt : ℕ → List ℕ → Question → Goal → List ℕ → ℕ → Type 0
NothingAt n book q goal plan i = ActAt n book q goal plan i (NothingHere n book q.held)

-- a byte has this fault, and no end has
at_byte : (S : System) (pending left : List ℕ) (f : Fault) → (f ≡ left_over → ⊥) → (f ≡ too_soon → ⊥) → Wrong S pending left f
    → (k : ℕ) × (ks : List ℕ) × (c : ℕ) × (cs : List ℕ) × (pending ≡ k ∷ ks) × (left ≡ c ∷ cs) × Wrong S (k ∷ ks) (c ∷ cs) f
at_byte S [] [] f more less w = absurd w
at_byte S [] (c ∷ cs) f more less w = absurd (more w)
at_byte S (k ∷ ks) [] f more less w = absurd (less w)
at_byte S (k ∷ ks) (c ∷ cs) f more less w = (k, ks, c, cs, refl, refl, w)

module _ {book : List ℕ} {q : Question} {goal : Goal} {n m : ℕ} (valid : ValidQuestion book q goal n m) (plan : List ℕ) where
  -- a fault of a byte that is given where an act of the book and team is said to be so, and what that means in the request's words
  module _ (f : Fault) (said : Permit) (Holds : (ℕ → ℕ) → Act → Type 0) (more : f ≡ left_over → ⊥) (less : f ≡ too_soon → ⊥)
      (means : (k c : ℕ) → FaultAt (system_of n book q goal) k c f
      ↔ ((a : Act) × (act_of c ≡ Some a) × T ((system_of n book q goal).offers a) × ((system_of n book q goal).permits k a ≡ said)))
      (exactly : (d : ℕ → ℕ) (a : Act) → permitted n book q.held d a ≡ said ↔ Holds d a) where
    act_out : (i : ℕ) → Faults.First (system_of n book q goal) (start_of q ∷ []) plan f i → ActAt n book q goal plan i Holds
    unfolding system_of
    act_out i w =
        let (k, ks, c, cs, pending, left, wrong) = at_byte (system_of n book q goal) w.pending w.left f more less w.wrong in
        let (a, named, ours, denied) = (means k c).0 ((fault_means (system_of n book q goal) k c f).0 wrong) in
        record {
          before = w.before;
          byte = c;
          after = cs;
          split = subst (λ (l : List ℕ). plan ≡ w.before ++ l) left w.split;
          index = w.index;
          k = k;
          waiting = ks;
          reads = subst (λ (l : List ℕ). Reads (system_of n book q goal) (start_of q ∷ []) w.before l) pending w.reads;
          act = a;
          named = named;
          ours = ours;
          holds = (exactly (digit 7 k) a).0 denied;
        }

    act_in : (i : ℕ) → ActAt n book q goal plan i Holds → Faults.First (system_of n book q goal) (start_of q ∷ []) plan f i
    unfolding system_of
    act_in i d = record {
      before = d.before;
      left = d.byte ∷ d.after;
      pending = d.k ∷ d.waiting;
      split = d.split;
      index = d.index;
      reads = d.reads;
      wrong = (fault_means (system_of n book q goal) d.k d.byte f).1
          ((means d.k d.byte).1 (d.act, d.named, d.ours, (exactly (digit 7 d.k) d.act).1 d.holds));
    }

    act_exact : (r : Result (Unit {0}) Refusal) → Checks book q goal plan r → length plan ≤ 32640
        → (i : ℕ) → (r ≡ Err (refusal_of f i)) ↔ ActAt n book q goal plan i Holds
    act_exact r answer short i = (
      λ e. act_out i ((fault_exact valid plan r answer short f i).0 e),
      λ d. (fault_exact valid plan r answer short f i).1 (act_in i d),
    )

  pub denied_exact : (r : Result (Unit {0}) Refusal) → Checks book q goal plan r → length plan ≤ 32640
      → (i : ℕ) (why : Why) → (r ≡ Err (NotPermitted i why)) ↔ DeniedAt n book q goal plan i why
  denied_exact r answer short i why =
      act_exact (not_permitted why) (Denied why) (λ d a. WhyNot n book q.held d a why)
      (λ e. cc) (λ e. cc)
      (λ k c. (λ w. w, λ w. w)) (λ d a. why_exactly n book q.held d a why) r answer short i

  pub nothing_exact : (r : Result (Unit {0}) Refusal) → Checks book q goal plan r → length plan ≤ 32640
      → (i : ℕ) → (r ≡ Err (ChangesNothing i)) ↔ NothingAt n book q goal plan i
  nothing_exact r answer short i =
      act_exact changes_nothing_case NothingSaid (NothingHere n book q.held)
      (λ e. cc) (λ e. cc)
      (λ k c. (λ w. w, λ w. w)) (λ d a. nothing_exactly n book q.held d a) r answer short i
