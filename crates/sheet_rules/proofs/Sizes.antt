-- Rules keep their size line by line; so a text whose size may be taken reads the same, however many settings more are taken.
use mathlib.Core.Path.{◌≡◌, refl, sym, ap, ◌∙◌, subst}
use mathlib.Core.Logic.{◌⊎◌, inl, inr}
use mathlib.Core.Bool.{Bool, true, false, not, ◌&&◌, cond}
use mathlib.Core.List.{List, [], ◌∷◌}
use Prim.Native.Nat.{ℕ, suc, ◌≤◌, ◌<◌}
use native.Mathlib.Omega.{arith}
use Rattle.ground.specs.Text.{bytes}
use Rattle.ground.proofs.Bools.{decide, T→true, T→false, lt_or_ge}
use Rattle.refusal.specs.declared.Refusal.{Refusal}
use Rattle.refusal.specs.declared.Refusal.TheVariants.{Twice, SheetSettings}
use Rattle.std.proofs.Common.{Result, Ok, Err}
use Rattle.formula.specs.Computed.{formula_answer}
use Rattle.book_block.specs.declared.rule.Right.TheVariants.{Look, Set}
use Rattle.sheet_words.specs.Words.{passed_over}
use Rattle.sheet_words.specs.Steps.{Step, fault, next, unless, unless_answered, unless_refused}
use Rattle.sheet_rules.specs.Rules.{Size, Rule, Rules, sized, with_rule, is_stated}
use Rattle.sheet_rules.specs.Forms.{is_size, digit_at, is_rule, rule_of, is_of_rules}
use Rattle.sheet_rules.specs.Steps.{size_step, rule_step, line_step}
use Rattle.sheet_rules.specs.Reading.{Reading, refused, up_to, rules_from, after_size, size_from, rules_read}
use Rattle.sheet_rules.proofs.StepLaws.{size-malformed, size_large, size-next}
use Rattle.sheet_rules.proofs.ReadLaws.{rules-line, rules_end}
use Rattle.sheet_rules.proofs.Bounds.{size-digits}

-- ---- the size is kept

abbrev Keeps : Size → Step Rules → Type 0
Keeps size (fault r) = Unit
Keeps size (next rules) = rules.size ≡ size

abbrev pub Kept : Size → Reading → Type 0
Kept size (refused r L) = Unit
Kept size (up_to rules L left) = rules.size ≡ size

keeps_unless : (size : Size) (b : Bool) (r : Refusal) (st : Step Rules) → Keeps size st → Keeps size (unless b r st)
keeps_unless size true r st h = h
keeps_unless size false r st h = tt

keeps_cond : (size : Size) (b : Bool) (x y : Step Rules) → Keeps size x → Keeps size y → Keeps size (cond b x y)
keeps_cond size true x y h k = h
keeps_cond size false x y h k = k

keeps_refused : (size : Size) (n : ℕ) (F : List ℕ) (st : Step Rules) → Keeps size st → Keeps size (unless_refused n F st)
unfolding unless_refused
keeps_refused size n F st h = by (formula_answer n F)
  where
    by : (a : Result (Unit {0}) Refusal) → Keeps size (unless_answered a st)
    by (Ok x) = h
    by (Err r) = tt

module _ (L : ℕ) (rules : Rules) where
  rule_keeps : (r : Rule) → Keeps rules.size (rule_step L rules r)
  unfolding rule_step with_rule
  rule_keeps r =
      keeps_unless rules.size (not (is_stated rules.rules r.right r.setting r.post)) (Twice L) _
      (keeps_refused rules.size rules.size.settings r.text (next (with_rule rules r)) refl)

  line_keeps : (passes : Bool) (line : List ℕ) → Keeps rules.size (line_step passes L rules line)
  unfolding line_step
  line_keeps passes line =
      keeps_cond rules.size (passes && passed_over line) _ _ refl
      (keeps_cond rules.size (is_rule (bytes "read ") rules.size.settings rules.size.posts line) _ _ (rule_keeps (rule_of (bytes "read ") Look line))
      (rule_keeps (rule_of (bytes "write ") Set line)))

kept-after : (passes : Bool) (L : ℕ) (size : Size) (st : Step Rules) (pieces : List (List ℕ)) → Keeps size st
    → ((v : Rules) → v.size ≡ size → Kept size (rules_from passes (suc L) v pieces)) → Kept size (after_size passes L st pieces)
kept-after passes L size (fault r) pieces h f = tt
kept-after passes L size (next v) pieces h f = f v h

pub size-kept : (passes : Bool) (L : ℕ) (rules : Rules) (pieces : List (List ℕ)) → Kept rules.size (rules_from passes L rules pieces)
unfolding rules_from
size-kept passes L rules [] = refl
size-kept passes L rules (rest ∷ []) = refl
size-kept passes L rules (line ∷ another ∷ more) = elim (decide (is_of_rules passes rules.size.settings rules.size.posts line)) [
  | inl t ↦ subst (Kept rules.size) (sym (rules-line passes L rules line another more (T→true (is_of_rules passes rules.size.settings rules.size.posts line) t)))
      (kept-after passes L rules.size (line_step passes L rules line) (another ∷ more) (line_keeps L rules passes line)
      (λ v e. subst (λ (size : Size). Kept size (rules_from passes (suc L) v (another ∷ more))) e (size-kept passes (suc L) v (another ∷ more))))
  | inr t ↦ subst (Kept rules.size) (sym (rules_end passes L rules line another more (T→false (is_of_rules passes rules.size.settings rules.size.posts line) t))) refl
]

-- ---- up to 7 settings, and up to `most` of them

-- what is read where 7 settings are taken, and where `most` are: the same, unless the size is above
abbrev pub Up : ℕ → Reading → Reading → Type 0
Up most (refused r L) o = (o ≡ refused r L) ⊎ ((K : ℕ) × (o ≡ refused SheetSettings K))
Up most (up_to rules L left) o = rules.size.settings ≤ most → o ≡ up_to rules L left

up_same : (most : ℕ) (o : Reading) → Up most o o
up_same most (refused r L) = inl refl
up_same most (up_to rules L left) = λ h. refl

up_above : (most L : ℕ) (size : Size) (o : Reading) → most < size.settings → Kept size o → Up most o (refused SheetSettings L)
up_above most L size (refused r K) h k = inr (L, refl)
up_above most L size (up_to rules K left) h k = λ l. absurd (omega (arith, ap (λ (x : Size). x.settings) k, h, l))

module _ (passes : Bool) (most L : ℕ) (line : List ℕ) (pieces : List (List ℕ)) where
  abbrev taken : ℕ → Reading
  taken up = after_size passes L (size_step up L line) pieces

  after-up : Up most (taken 7) (taken most)
  after-up = elim (decide (is_size line)) [
    | inl t ↦ (let is = T→true (is_size line) t in
        let z = size-digits line is in
        elim (lt_or_ge most (digit_at line 5)) [
          | inl above ↦ subst (λ (st : Step Rules). Up most (after_size passes L st pieces) (taken most)) (sym (size-next 7 L line is z.1))
              (subst (λ (st : Step Rules). Up most (rules_from passes (suc L) (sized (digit_at line 5) (digit_at line 7)) pieces) (after_size passes L st pieces)) (sym (size_large most L line is above))
              (up_above most L (sized (digit_at line 5) (digit_at line 7)).size (rules_from passes (suc L) (sized (digit_at line 5) (digit_at line 7)) pieces) above
              (size-kept passes (suc L) (sized (digit_at line 5) (digit_at line 7)) pieces)))
          | inr few ↦ subst (λ (st : Step Rules). Up most (taken 7) (after_size passes L st pieces)) (size-next 7 L line is z.1 ∙ sym (size-next most L line is few)) (up_same most (taken 7))
        ])
    | inr t ↦ (let not-size = T→false (is_size line) t in
        subst (λ (st : Step Rules). Up most (taken 7) (after_size passes L st pieces)) (size-malformed 7 L line not-size ∙ sym (size-malformed most L line not-size)) (up_same most (taken 7)))
  ]

up-cond : (most : ℕ) (b : Bool) (x y u v : Reading) → Up most x u → Up most y v → Up most (cond b x y) (cond b u v)
up-cond most true x y u v h k = h
up-cond most false x y u v h k = k

size-up : (passes : Bool) (most L : ℕ) (pieces : List (List ℕ)) → Up most (size_from passes 7 L pieces) (size_from passes most L pieces)
unfolding size_from
size-up passes most L [] = inl refl
size-up passes most L (rest ∷ []) = inl refl
size-up passes most L (line ∷ another ∷ more) =
    up-cond most (passes && passed_over line) _ _ _ _ (size-up passes most (suc L) (another ∷ more)) (after-up passes most L line (another ∷ more))

pub read_up : (passes : Bool) (most : ℕ) (pieces : List (List ℕ)) → Up most (rules_read passes 7 pieces) (rules_read passes most pieces)
unfolding rules_read
read_up passes most pieces = size-up passes most 1 pieces
