-- When 32 is said of an act, in the words of request R-9, against the definition: of a set that nothing else denies, to the value that the team knows
-- is there. From what the rules and the held settings say, which is never 32.
use mathlib.Core.Path.{◌≡◌, refl}
use mathlib.Core.Logic.{◌↔◌}
use mathlib.Core.Bool.{Bool, true, false, not}
use mathlib.Core.List.{List}
use Prim.Native.Nat.{ℕ, ◌^◌, ◌<◌}
use native.Mathlib.Omega.{arith}
use lib.Dec.{T, eqb, eqb→eq, not_T}
use Rattle.ground.specs.Digits.{bit}
use Rattle.ground.specs.Table.{truth}
use Rattle.ground.proofs.Bools.{eq→eqb, and_in, and_left, and_right, both}
use Rattle.book_block.specs.Rule.{rule}
use Rattle.book_block.specs.declared.rule.Right.TheVariants.{Look as look-rule, Set as set-rule}
use Rattle.knowledge_acts.specs.Seven.{told, now_told}
use Rattle.knowledge_acts.specs.declared.act.Act.{Act}
use Rattle.knowledge_acts.specs.declared.act.Act.TheVariants.{Set, Look}
use Rattle.knowledge.specs.Fits.{now_side, fits_now}
use Rattle.knowledge.specs.Judgement.{judgement, known}
use Rattle.knowledge.specs.declared.judgement.Judgement.{Judgement}
use Rattle.knowledge.specs.declared.judgement.Judgement.TheVariants.{TrueAtAll, FalseAtAll, Neither}
use Rattle.knowledge.proofs.Known.{known_at, known_intro}
use Rattle.plan.specs.Plans.{given}
use Rattle.plan.specs.declared.Permit.{Permit}
use Rattle.plan.specs.declared.Permit.TheVariants.{Given, Denied, ChangesNothing}
use Rattle.plan.specs.Without.{changes_nothing, unless_nothing}
use Rattle.question.specs.Permitted.{by_rule, by_look, by_set, ruled, permitted}
use Rattle.question.proofs.PermitLaws.{set_given}
use Rattle.question.proofs.WhyLaws.{rule_of, SetsHeld}

-- "Where the team knows the present value, setting that same value"
abbrev pub SetsKnown : (ℕ → ℕ) → Act → Type 0
SetsKnown d (Set i q b) = now_told (d i) ≡ told b
SetsKnown d (Look i q) = ⊥

-- such a set, of a setting that is not held, whose rule is known to hold: 32 is "after 18 at the same byte"
abbrev pub NothingHere : ℕ → List ℕ → ℕ → (ℕ → ℕ) → Act → Type 0
NothingHere n book held d a =
    SetsKnown d a × (SetsHeld held a → ⊥) × ((v : ℕ) → v < 2 ^ n → T (fits_now n d v) → T (truth (rule_of book a) v))

-- ---- what is said, by what was said before and whether it changes nothing

nothing_when : (c : Bool) (said : Permit) → (said ≡ ChangesNothing → ⊥) → unless_nothing c said ≡ ChangesNothing → T c × T (given said)
nothing_when true Given none e = (tt, tt)
nothing_when true (Denied why) none e = absurd (none e)
nothing_when true ChangesNothing none e = absurd (none e)
nothing_when false said none e = absurd (none e)

when_nothing : (c : Bool) (said : Permit) → T c → T (given said) → unless_nothing c said ≡ ChangesNothing
when_nothing true Given t g = refl
when_nothing true (Denied why) t g = absurd g
when_nothing true ChangesNothing t g = absurd g
when_nothing false said t g = absurd t

-- ---- the rules and the held settings never say it

rule-never : (j : Judgement) → by_rule j ≡ ChangesNothing → ⊥
rule-never TrueAtAll e = let z : ◌≡◌ {A = ℕ} 0 1 = cc in omega arith
rule-never FalseAtAll e = let z : ◌≡◌ {A = ℕ} 0 1 = cc in omega arith
rule-never Neither e = let z : ◌≡◌ {A = ℕ} 0 1 = cc in omega arith

set-never : (b : Bool) (j : Judgement) → by_set b (by_rule j) ≡ ChangesNothing → ⊥
set-never true j e = let z : ◌≡◌ {A = ℕ} 0 1 = cc in omega arith
set-never false j e = rule-never j e

look_never : (b : Bool) (j : Judgement) → by_look b (by_rule j) ≡ ChangesNothing → ⊥
look_never true j e = rule-never j e
look_never false j e = let z : ◌≡◌ {A = ℕ} 0 1 = cc in omega arith

module _ (n : ℕ) (book : List ℕ) (held : ℕ) (d : ℕ → ℕ) where
  ruled-never : (a : Act) → ruled n book held d a ≡ ChangesNothing → ⊥
  unfolding ruled
  ruled-never (Set i q b) e = set-never (bit held i) (judgement n (now_side d) (rule book i q set-rule)) e
  ruled-never (Look i q) e = look_never (eqb (d i) 0) (judgement n (now_side d) (rule book i q look-rule)) e

  -- ---- 32 exactly

  pub nothing_exactly : (a : Act) → permitted n book held d a ≡ ChangesNothing ↔ NothingHere n book held d a
  unfolding permitted changes_nothing
  nothing_exactly (Set i q b) = (
    λ e.
        let rules : Bool = known n d (rule book i q set-rule) in
        let (c, g) = nothing_when (eqb (now_told (d i)) (told b)) (ruled n book held d (Set i q b)) (ruled-never (Set i q b)) e in
        let h = rw (set_given n book held d i q b) at g in (
          eqb→eq (now_told (d i)) (told b) c,
          (λ on. both (bit held i) on (and_right rules (not (bit held i)) h)),
          known_at n d (rule book i q set-rule) (and_left rules (not (bit held i)) h),
        ),
    λ (t, free, true-at-all). when_nothing (eqb (now_told (d i)) (told b)) (ruled n book held d (Set i q b)) (eq→eqb t)
        (rw (set_given n book held d i q b)
        (and_in (known n d (rule book i q set-rule)) (not (bit held i)) (known_intro n d (rule book i q set-rule) true-at-all) (not_T (bit held i) free))),
  )
  nothing_exactly (Look i q) = (λ e. absurd (ruled-never (Look i q) e), λ h. absurd h.0)
