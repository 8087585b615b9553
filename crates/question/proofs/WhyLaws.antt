-- Why an act is not permitted, in the words of requests R-3 and R-7, against the definition: "0 for a look at a known setting, 1 surely false, 2 not known,
-- judged in that order"; "A plan that sets a held setting gets 18, second number 3, judged first".
use mathlib.Core.Path.{◌≡◌, refl, sym, ap, ◌∙◌}
use mathlib.Core.Logic.{◌↔◌, inl, inr}
use mathlib.Core.Bool.{Bool, true, false, not}
use mathlib.Core.List.{List}
use Prim.Native.Nat.{ℕ, ◌^◌, ◌<◌}
use native.Mathlib.Omega.{arith}
use native.Mathlib.Decide.{ℕ_discrete}
use lib.Dec.{T}
use borrow.Author.Tests.{eq-eqb, ne_eqb}
use Rattle.ground.specs.Digits.{bit}
use Rattle.ground.specs.Table.{truth}
use Rattle.ground.proofs.Bools.{T→true, T_iff, both, decide}
use Rattle.refusal.specs.declared.Why.{Why}
use Rattle.refusal.specs.declared.Why.TheVariants.{KnownSetting, SurelyFalse, NotKnown, HeldSetting}
use Rattle.book_block.specs.Rule.{rule}
use Rattle.book_block.specs.declared.rule.Right.TheVariants.{Look as look-rule, Set as set-rule}
use Rattle.knowledge_acts.specs.declared.act.Act.{Act}
use Rattle.knowledge_acts.specs.declared.act.Act.TheVariants.{Set, Look}
use Rattle.knowledge.specs.Fits.{now_side, fits_now}
use Rattle.knowledge.specs.Judgement.{judgement}
use Rattle.knowledge.specs.declared.judgement.Judgement.{Judgement}
use Rattle.knowledge.specs.declared.judgement.Judgement.TheVariants.{TrueAtAll, FalseAtAll, Neither}
use Rattle.knowledge.proofs.JudgementLaws.{now_is, false_exactly, neither_exactly}
use Rattle.plan.specs.declared.Permit.{Permit}
use Rattle.plan.specs.declared.Permit.TheVariants.{Given, Denied, ChangesNothing}
use Rattle.plan.specs.Without.{changes_nothing, unless_nothing}
use Rattle.plan.proofs.Unchanged.{unless_denied, denied_before}
use Rattle.question.specs.Permitted.{by_rule, ruled, permitted}

-- the rule that an act stands under
abbrev pub rule_of : List ℕ → Act → List ℕ
rule_of book (Set i q b) = rule book i q set-rule
rule_of book (Look i q) = rule book i q look-rule

-- a set of a held setting
abbrev pub SetsHeld : ℕ → Act → Type 0
SetsHeld held (Set i q b) = T (bit held i)
SetsHeld held (Look i q) = ⊥

-- a look at a known setting
abbrev pub LooksAtKnown : (ℕ → ℕ) → Act → Type 0
LooksAtKnown d (Set i q b) = ⊥
LooksAtKnown d (Look i q) = d i ≡ 0 → ⊥

-- a present valuation of n settings that fits what is known, and gives the table this value
abbrev pub Somewhere : ℕ → (ℕ → ℕ) → List ℕ → Bool → Type 0
Somewhere n d table b = (v : ℕ) × (v < 2 ^ n) × T (fits_now n d v) × (truth table v ≡ b)

-- each reason, and that those before it do not hold
abbrev pub WhyNot : ℕ → List ℕ → ℕ → (ℕ → ℕ) → Act → Why → Type 0
WhyNot n book held d a HeldSetting = SetsHeld held a
WhyNot n book held d a KnownSetting = LooksAtKnown d a
WhyNot n book held d a SurelyFalse =
    (SetsHeld held a → ⊥) × (LooksAtKnown d a → ⊥) × ((v : ℕ) → v < 2 ^ n → T (fits_now n d v) → T (not (truth (rule_of book a) v)))
WhyNot n book held d a NotKnown =
    (SetsHeld held a → ⊥) × (LooksAtKnown d a → ⊥) × (Somewhere n d (rule_of book a) true × Somewhere n d (rule_of book a) false)

-- ---- a judgement by the reason that it gives

judged_so : Permit → Judgement
judged_so Given = TrueAtAll
judged_so (Denied HeldSetting) = TrueAtAll
judged_so (Denied KnownSetting) = TrueAtAll
judged_so (Denied SurelyFalse) = FalseAtAll
judged_so (Denied NotKnown) = Neither
judged_so ChangesNothing = TrueAtAll

judged_back : (j : Judgement) → judged_so (by_rule j) ≡ j
unfolding judged_so
judged_back TrueAtAll = refl
judged_back FalseAtAll = refl
judged_back Neither = refl

-- no judgement says that a setting is known, or that it is held
never-known : (j : Judgement) → by_rule j ≡ Denied KnownSetting → ⊥
never-known TrueAtAll e = let z : ◌≡◌ {A = ℕ} 0 1 = cc in omega arith
never-known FalseAtAll e = let z : ◌≡◌ {A = ℕ} 0 1 = cc in omega arith
never-known Neither e = let z : ◌≡◌ {A = ℕ} 0 1 = cc in omega arith

never-held : (j : Judgement) → by_rule j ≡ Denied HeldSetting → ⊥
never-held TrueAtAll e = let z : ◌≡◌ {A = ℕ} 0 1 = cc in omega arith
never-held FalseAtAll e = let z : ◌≡◌ {A = ℕ} 0 1 = cc in omega arith
never-held Neither e = let z : ◌≡◌ {A = ℕ} 0 1 = cc in omega arith

module _ (n : ℕ) (d : ℕ → ℕ) (table : List ℕ) where
  abbrev judged : Judgement
  judged = judgement n (now_side d) table

  rule_false : by_rule judged ≡ Denied SurelyFalse ↔ ((v : ℕ) → v < 2 ^ n → T (fits_now n d v) → T (not (truth table v)))
  unfolding fits_now judged_so
  rule_false = (
    λ e. (false_exactly n (now_side d) table (now_is n d)).0 (sym (judged_back judged) ∙ ap judged_so e),
    λ h. ap by_rule ((false_exactly n (now_side d) table (now_is n d)).1 h),
  )

  rule_open : by_rule judged ≡ Denied NotKnown ↔ (Somewhere n d table true × Somewhere n d table false)
  unfolding fits_now judged_so
  rule_open = (
    λ e. (neither_exactly n (now_side d) table).0 (sym (judged_back judged) ∙ ap judged_so e),
    λ h. ap by_rule ((neither_exactly n (now_side d) table).1 h),
  )

at-nought : (x : ℕ) → ((x ≡ 0 → ⊥) → ⊥) → x ≡ 0
at-nought x h = elim (ℕ_discrete x 0) [ yes z ↦ z | no ne ↦ absurd (h ne) ]

-- ---- an act is denied for a reason exactly where it holds

module _ (n : ℕ) (book : List ℕ) (held : ℕ) (d : ℕ → ℕ) where
  -- a setting that is not held: the rule decides, and else nothing is asked of it
  set_free : (i q : ℕ) (b : Bool) → (T (bit held i) → ⊥) → ruled n book held d (Set i q b) ≡ by_rule (judged n d (rule book i q set-rule))
  unfolding ruled
  set_free i q b free = rw (T_iff (bit held i) false free (λ none. absurd none))

  set-held : (i q : ℕ) (b : Bool) → T (bit held i) → ruled n book held d (Set i q b) ≡ Denied HeldSetting
  unfolding ruled
  set-held i q b on = rw (T→true (bit held i) on)

  -- any other reason shows that the setting is not held
  held_alone : (i q : ℕ) (b : Bool) (why : Why) → ruled n book held d (Set i q b) ≡ Denied why → (why ≡ HeldSetting → ⊥) → T (bit held i) → ⊥
  held_alone i q b why e ne on = ne (let same : ◌≡◌ {A = Permit} (Denied why) (Denied HeldSetting) = sym e ∙ set-held i q b on in cc)

  set-why : (i q : ℕ) (b : Bool) (why : Why) → ruled n book held d (Set i q b) ≡ Denied why ↔ WhyNot n book held d (Set i q b) why
  set-why i q b HeldSetting = (
    λ e. elim (decide (bit held i)) [
      | inl on ↦ on
      | inr off ↦ absurd (never-held (judged n d (rule book i q set-rule)) (sym (set_free i q b (λ on. both (bit held i) on off)) ∙ e))
    ],
    λ on. set-held i q b on,
  )
  set-why i q b KnownSetting = (
    λ e. let free = held_alone i q b KnownSetting e (λ s. let y : ◌≡◌ {A = ℕ} 0 1 = cc in omega arith) in
        never-known (judged n d (rule book i q set-rule)) (sym (set_free i q b free) ∙ e),
    λ h. absurd h,
  )
  set-why i q b SurelyFalse = (
    λ e. let free = held_alone i q b SurelyFalse e (λ s. let y : ◌≡◌ {A = ℕ} 0 1 = cc in omega arith) in
        (free, (λ h. h), (rule_false n d (rule book i q set-rule)).0 (sym (set_free i q b free) ∙ e)),
    λ h. set_free i q b h.0 ∙ (rule_false n d (rule book i q set-rule)).1 h.2,
  )
  set-why i q b NotKnown = (
    λ e. let free = held_alone i q b NotKnown e (λ s. let y : ◌≡◌ {A = ℕ} 0 1 = cc in omega arith) in
        (free, (λ h. h), (rule_open n d (rule book i q set-rule)).0 (sym (set_free i q b free) ∙ e)),
    λ h. set_free i q b h.0 ∙ (rule_open n d (rule book i q set-rule)).1 h.2,
  )

  -- at the digit 0 the rule decides, and else nothing is asked of it
  look_first : (i q : ℕ) → d i ≡ 0 → ruled n book held d (Look i q) ≡ by_rule (judged n d (rule book i q look-rule))
  unfolding ruled
  look_first i q z = rw (eq-eqb (d i) 0 z)

  look_known : (i q : ℕ) → (d i ≡ 0 → ⊥) → ruled n book held d (Look i q) ≡ Denied KnownSetting
  unfolding ruled
  look_known i q ne = rw (ne_eqb (d i) 0 ne)

  -- any other reason shows that the digit is 0
  known_alone : (i q : ℕ) (why : Why) → ruled n book held d (Look i q) ≡ Denied why → (why ≡ KnownSetting → ⊥) → d i ≡ 0
  known_alone i q why e ne = elim (ℕ_discrete (d i) 0) [
    | yes z ↦ z
    | no known ↦ absurd (ne (let same : ◌≡◌ {A = Permit} (Denied why) (Denied KnownSetting) = sym e ∙ look_known i q known in cc))
  ]

  look_why : (i q : ℕ) (why : Why) → ruled n book held d (Look i q) ≡ Denied why ↔ WhyNot n book held d (Look i q) why
  look_why i q KnownSetting = (
    λ e z. never-known (judged n d (rule book i q look-rule)) (sym (look_first i q z) ∙ e),
    λ h. look_known i q h,
  )
  look_why i q HeldSetting = (
    λ e. let z = known_alone i q HeldSetting e (λ s. let y : ◌≡◌ {A = ℕ} 0 1 = cc in omega arith) in
        never-held (judged n d (rule book i q look-rule)) (sym (look_first i q z) ∙ e),
    λ h. absurd h,
  )
  look_why i q SurelyFalse = (
    λ e. let z = known_alone i q SurelyFalse e (λ s. let y : ◌≡◌ {A = ℕ} 0 1 = cc in omega arith) in
        ((λ h. h), (λ h. h z), (rule_false n d (rule book i q look-rule)).0 (sym (look_first i q z) ∙ e)),
    λ h. look_first i q (at-nought (d i) h.1) ∙ (rule_false n d (rule book i q look-rule)).1 h.2,
  )
  look_why i q NotKnown = (
    λ e. let z = known_alone i q NotKnown e (λ s. let y : ◌≡◌ {A = ℕ} 0 1 = cc in omega arith) in
        ((λ h. h), (λ h. h z), (rule_open n d (rule book i q look-rule)).0 (sym (look_first i q z) ∙ e)),
    λ h. look_first i q (at-nought (d i) h.1) ∙ (rule_open n d (rule book i q look-rule)).1 h.2,
  )

  ruled-why : (a : Act) (why : Why) → ruled n book held d a ≡ Denied why ↔ WhyNot n book held d a why
  ruled-why (Set i q b) why = set-why i q b why
  ruled-why (Look i q) why = look_why i q why

  -- whether it changes nothing is asked after that
  pub why_exactly : (a : Act) (why : Why) → permitted n book held d a ≡ Denied why ↔ WhyNot n book held d a why
  unfolding permitted
  why_exactly a why = (
    λ e. (ruled-why a why).0 (denied_before (changes_nothing d a) (ruled n book held d a) why e),
    λ w. ap (unless_nothing (changes_nothing d a)) ((ruled-why a why).1 w) ∙ unless_denied (changes_nothing d a) why,
  )
