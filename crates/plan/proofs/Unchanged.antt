-- Which acts change nothing: a set does exactly where its outcome is the state that it is done at, and no look does. A digit that tells the value
-- stays as it is when that value is set, by the seven rows, and after a set the digit tells the value that was set. And which acts may be done in a
-- system without such sets: those that may be done and change something.
use mathlib.Core.Path.{◌≡◌, refl, sym, ap, ◌∙◌}
use mathlib.Core.Logic.{◌↔◌}
use mathlib.Core.Bool.{Bool, true, false, not, ◌||◌}
use Prim.Native.Nat.{ℕ, ◌<◌}
use native.Mathlib.Omega.{arith}
use lib.Dec.{T, eqb, eqb→eq}
use Rattle.ground.specs.Digits.{digit, put}
use Rattle.ground.specs.Search.{all}
use Rattle.ground.proofs.Bools.{eq→eqb, and_in, and_left, and_right}
use Rattle.ground.proofs.Digits.{digit_lt, put-digit}
use Rattle.ground.proofs.Search.{all-at}
use Rattle.knowledge_acts.specs.Seven.{told, now_told, after_set}
use Rattle.knowledge_acts.specs.Acts.{set_to, look_at}
use Rattle.knowledge_acts.specs.declared.act.Act.{Act}
use Rattle.knowledge_acts.specs.declared.act.Act.TheVariants.{Set, Look}
use Rattle.knowledge_acts.proofs.Seven.{now_set, look_known}
use Rattle.knowledge_acts.proofs.Outcomes.{set_here, look_here}
use Rattle.refusal.specs.declared.Why.{Why}
use Rattle.plan.specs.declared.Permit.{Permit}
use Rattle.plan.specs.declared.Permit.TheVariants.{Given, Denied, ChangesNothing}
use Rattle.plan.specs.Plans.{System, given, may, Lawful, Outcome, after_set_case, after_look}
use Rattle.plan.specs.Without.{changes_nothing, unless_nothing, without}
use Rattle.plan.proofs.Acts.{after_a_set}
use Rattle.plan.proofs.Compare.{PermitsMore}
use Rattle.plan.proofs.Unknowns.{seven}

-- a digit that tells the value stays as it is when that value is set
stays : (d : ℕ) (b : Bool) → d < 7 → now_told d ≡ told b → after_set d b ≡ d
unfolding all now_told after_set
stays d false h e = eqb→eq (after_set d false) d (rw e at (all-at 7 (λ d. not (eqb (now_told d) 1) || eqb (after_set d false) d) tt d h))
stays d true h e = eqb→eq (after_set d true) d (rw e at (all-at 7 (λ d. not (eqb (now_told d) 2) || eqb (after_set d true) d) tt d h))

-- a set changes nothing exactly where the knowledge number is the same after it
pub nothing_set : (k i q : ℕ) (b : Bool) → T (changes_nothing (digit 7 k) (Set i q b)) ↔ (set_to k i b ≡ k)
unfolding changes_nothing set_to
nothing_set k i q b = (
  λ t. ap (put 7 k i) (stays (digit 7 k i) b (digit_lt seven k i) (eqb→eq (now_told (digit 7 k i)) (told b) t)) ∙ put-digit seven k i,
  λ s.
      let same : digit 7 k i ≡ after_set (digit 7 k i) b = sym (ap (λ (x : ℕ). digit 7 x i) s) ∙ set_here k i b in
      eq→eqb (ap now_told same ∙ now_set (digit 7 k i) b (digit_lt seven k i)),
)

-- of the acts that may be done, those change nothing whose every outcome is the state itself
pub nothing_exactly : {n : ℕ} {S : System} (law : Lawful n S) (k : ℕ) (a : Act) → T (may S k a)
    → T (changes_nothing (digit 7 k) a) ↔ ((x : ℕ) → Outcome k a x → x ≡ k)
unfolding changes_nothing
nothing_exactly law k (Set i q b) m =
    (λ t x. after_a_set (λ x. x ≡ k) ((nothing_set k i q b).0 t), λ f. (nothing_set k i q b).1 (f (set_to k i b) (after_set_case i q b)))
nothing_exactly law k (Look i q) m = (
  λ t. absurd t,
  λ f. absurd (look_known false
      (sym (look_here k i false) ∙ ap (λ (x : ℕ). digit 7 x i) (f (look_at k i false) (after_look i q false)) ∙ law.looks_at k i q m)),
)

-- ---- what is said of an act

-- what is denied stays denied, whether it changes nothing or not: 32 is "after 18 at the same byte"
pub unless_denied : (c : Bool) (why : Why) → unless_nothing c (Denied why) ≡ Denied why
unless_denied true why = refl
unless_denied false why = refl

-- and nothing else is denied
pub denied_before : (c : Bool) (said : Permit) (why : Why) → unless_nothing c said ≡ Denied why → said ≡ Denied why
denied_before true Given why e = let z : ◌≡◌ {A = ℕ} 0 1 = cc in absurd (omega arith)
denied_before true (Denied w) why e = e
denied_before true ChangesNothing why e = e
denied_before false said why e = e

-- ---- which acts may be done in a system without such sets

given-unless : (c : Bool) (said : Permit) → T (given (unless_nothing c said)) ↔ (T (given said) × T (not c))
given-unless true Given = (λ t. absurd t, λ t. t.1)
given-unless true (Denied why) = (λ t. absurd t, λ t. t.1)
given-unless true ChangesNothing = (λ t. absurd t, λ t. t.1)
given-unless false said = (λ t. (t, tt), λ t. t.0)

module _ (S : System) where
  -- those that may be done and change something
  pub may_exactly : (k : ℕ) (a : Act) → T (may (without S) k a) ↔ (T (may S k a) × T (not (changes_nothing (digit 7 k) a)))
  may_exactly k a = (
    λ t.
        let g = (given-unless (changes_nothing (digit 7 k) a) (S.permits k a)).0 (and_right (S.offers a) (given ((without S).permits k a)) t) in
        (and_in (S.offers a) (given (S.permits k a)) (and_left (S.offers a) (given ((without S).permits k a)) t) g.0, g.1),
    λ t. and_in (S.offers a) (given ((without S).permits k a)) (and_left (S.offers a) (given (S.permits k a)) t.0)
        ((given-unless (changes_nothing (digit 7 k) a) (S.permits k a)).1 (and_right (S.offers a) (given (S.permits k a)) t.0, t.1)),
  )

  pub permits_fewer : PermitsMore (without S) S
  permits_fewer = record { acts = λ k a t. ((may_exactly k a).0 t).0; goals = λ k g. g }

  -- no look changes nothing
  pub look_may : (k i q : ℕ) → T (may S k (Look i q)) → T (may (without S) k (Look i q))
  unfolding changes_nothing
  look_may k i q m = (may_exactly k (Look i q)).1 (m, tt)

  pub without_lawful : {n : ℕ} → Lawful n S → Lawful n (without S)
  without_lawful law = record {
    setting_of_case = λ k a t. law.setting_of_case k a ((may_exactly k a).0 t).0;
    post_of_case = λ k a t. law.post_of_case k a ((may_exactly k a).0 t).0;
    looks_at = λ k i q t. law.looks_at k i q ((may_exactly k (Look i q)).0 t).0;
  }

-- what permits more permits more without such sets too
pub without_more : {S R : System} → PermitsMore S R → PermitsMore (without S) (without R)
without_more {S} {R} more = record {
  acts = λ k a t. let (m, some) = (may_exactly S k a).0 t in (may_exactly R k a).1 (more.acts k a m, some);
  goals = more.goals;
}
