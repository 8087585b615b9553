-- A fault is the first in reading order: all bytes before it read without one, and it is the fault of the byte that stands there, or
-- of the end. By recursion on the bytes, since the judgement goes on exactly where a byte reads well.
use mathlib.Core.Path.{◌≡◌, refl, sym, ap, ◌∙◌}
use mathlib.Core.List.{List, [], ◌∷◌, ◌++◌}
use Prim.Native.Nat.{ℕ, suc, ◌+◌}
use native.Mathlib.Omega.{arith}
use lib.ListN.{length}
use Rattle.plan.specs.Plans.{System}
use Rattle.plan.specs.Check.{Fault, too_soon, left_over, faulty, Reading, goes_on, fails, read_byte, judge}
use Rattle.plan.proofs.Check.{judge-on, judge-fails}

-- the bytes read without a fault, from pending states to pending states
pub data Reads (S : System) : List ℕ → List ℕ → List ℕ → Type 0 where
  nothing : {ks : List ℕ} → Reads S ks [] ks
  one_more : {k c : ℕ} {ks cs new last : List ℕ} → read_byte S k c ≡ goes_on new → Reads S (new ++ ks) cs last → Reads S (k ∷ ks) (c ∷ cs) last

-- what is wrong where these states are pending and these bytes are left
abbrev pub Wrong : System → List ℕ → List ℕ → Fault → Type 0
Wrong S [] [] f = ⊥
Wrong S [] (c ∷ cs) f = f ≡ left_over
Wrong S (k ∷ ks) [] f = f ≡ too_soon
Wrong S (k ∷ ks) (c ∷ cs) f = read_byte S k c ≡ fails f

-- the first fault in reading order: its byte's index, and what is wrong there
pub record First (S : System) (ks bytes : List ℕ) (f : Fault) (i : ℕ) : Type 0 where
  pub before : List ℕ
  pub left : List ℕ
  pub pending : List ℕ
  pub split : bytes ≡ before ++ left
  pub index : i ≡ length before
  pub reads : Reads S ks before pending
  pub wrong : Wrong S pending left f

-- what was read without a fault is settled, whatever follows
pub judge-reads : {S : System} {ks before last : List ℕ} (at : ℕ) (left : List ℕ) → Reads S ks before last
    → judge S ks at (before ++ left) ≡ judge S last (at + length before) left
judge-reads {S} at left (nothing {ks = ks}) = ap (λ (i : ℕ). judge S ks i left) (omega arith)
judge-reads {S} at left (one_more {k = k} {c = c} {ks = ks} {cs = cs} {new = new} {last = last} r more) =
    judge-on S k ks at c (cs ++ left) new r ∙ judge-reads (suc at) left more ∙ ap (λ (i : ℕ). judge S last i left) (omega arith)

wrong_judged : (S : System) (ks left : List ℕ) (at : ℕ) (f : Fault) → Wrong S ks left f → judge S ks at left ≡ faulty f at
wrong_judged S [] [] at f w = absurd w
wrong_judged S [] (c ∷ cs) at f w = ap (λ (g : Fault). faulty g at) (sym w)
wrong_judged S (k ∷ ks) [] at f w = ap (λ (g : Fault). faulty g at) (sym w)
wrong_judged S (k ∷ ks) (c ∷ cs) at f w = judge-fails S k ks at c cs f w

pub fault_in : (S : System) (ks bytes : List ℕ) (at : ℕ) (f : Fault) (i : ℕ) → First S ks bytes f i → judge S ks at bytes ≡ faulty f (at + i)
fault_in S ks bytes at f i w =
    rw (w.split, w.index) (judge-reads at w.left w.reads ∙ wrong_judged S w.pending w.left (at + length w.before) f w.wrong)

same-fault : {f g : Fault} {i j : ℕ} → faulty f i ≡ faulty g j → (f ≡ g) × (i ≡ j)
same-fault e = (cc, cc)

pub fault_out : (S : System) (bytes ks : List ℕ) (at : ℕ) (f : Fault) (j : ℕ) → judge S ks at bytes ≡ faulty f j → (i : ℕ) × (j ≡ at + i) × First S ks bytes f i
fault_out S [] [] at f j e = absurd (let z : ◌≡◌ {A = ℕ} 0 1 = cc in omega arith)
fault_out S [] (k ∷ ks) at f j e =
    let s = same-fault e in
    (0, omega (arith, s.1), record { before = []; left = []; pending = k ∷ ks; split = refl; index = refl; reads = nothing; wrong = sym s.0 })
fault_out S (c ∷ cs) [] at f j e =
    let s = same-fault e in
    (0, omega (arith, s.1), record { before = []; left = c ∷ cs; pending = []; split = refl; index = refl; reads = nothing; wrong = sym s.0 })
fault_out S (c ∷ cs) (k ∷ ks) at f j e = go (λ new. fault_out S cs (new ++ ks) (suc at) f j) (read_byte S k c) refl
  where
    go : ((new : List ℕ) → judge S (new ++ ks) (suc at) cs ≡ faulty f j → (i : ℕ) × (j ≡ suc at + i) × First S (new ++ ks) cs f i)
        → (r : Reading) → read_byte S k c ≡ r → (i : ℕ) × (j ≡ at + i) × First S (k ∷ ks) (c ∷ cs) f i
    go below (goes_on new) r =
        let w = below new (sym (judge-on S k ks at c cs new r) ∙ e) in
        let d = w.2 in (
          suc w.0,
          omega (arith, w.1),
          record {
            before = c ∷ d.before;
            left = d.left;
            pending = d.pending;
            split = ap (λ (l : List ℕ). c ∷ l) d.split;
            index = omega (arith, d.index);
            reads = one_more r d.reads;
            wrong = d.wrong;
          },
        )
    go below (fails g) r =
        let s = same-fault (sym (judge-fails S k ks at c cs g r) ∙ e) in (
          0,
          omega (arith, s.1),
          record {
            before = [];
            left = c ∷ cs;
            pending = k ∷ ks;
            split = refl;
            index = refl;
            reads = nothing;
            wrong = r ∙ ap fails s.0;
          },
        )
