-- A text none of whose lines is passed over reads the same, whether it may have such lines or not: line by line, the test finds nothing.
use mathlib.Core.Path.{◌≡◌, refl, sym, ap, ◌∙◌}
use mathlib.Core.Logic.{inl, inr}
use mathlib.Core.Bool.{Bool, true, false, not, cond}
use mathlib.Core.List.{List, [], ◌∷◌}
use Prim.Native.Nat.{ℕ, suc}
use lib.Dec.{T, ltb}
use lib.ListN.{length}
use Rattle.ground.proofs.Bools.{decide, T→true, T→false, and_left, and_right}
use Rattle.refusal.specs.declared.Refusal.TheVariants.{SheetLength}
use Rattle.sheet_words.specs.Words.{split, newline, passed_over, none_passed}
use Rattle.sheet_words.specs.Steps.{Step, fault, next}
use Rattle.sheet_rules.specs.Rules.{Rules}
use Rattle.sheet_rules.specs.Forms.{is_of_rules}
use Rattle.sheet_rules.specs.Steps.{size_step, line_step}
use Rattle.sheet_rules.specs.Reading.{refused, rules_from, after_size, size_from, rules_read, rules_of}
use Rattle.sheet_rules.proofs.ReadLaws.{rules-line, rules_end}

-- ---- one line

module _ (line : List ℕ) (h : passed_over line ≡ false) where
  same_form : (n m : ℕ) → is_of_rules true n m line ≡ is_of_rules false n m line
  unfolding is_of_rules
  same_form n m = rw h refl

  same_step : (L : ℕ) (rules : Rules) → line_step true L rules line ≡ line_step false L rules line
  unfolding line_step
  same_step L rules = rw h refl

-- ---- all lines

module _ (line another : List ℕ) (more : List (List ℕ)) (h : T (none_passed (line ∷ another ∷ more))) where
  first-not : passed_over line ≡ false
  unfolding none_passed
  first-not = T→false (passed_over line) (and_left (not (passed_over line)) (none_passed (another ∷ more)) h)

  others_not : T (none_passed (another ∷ more))
  unfolding none_passed
  others_not = and_right (not (passed_over line)) (none_passed (another ∷ more)) h

same_after : (L : ℕ) (pieces : List (List ℕ)) (st : Step Rules) → ((rules : Rules) → rules_from true (suc L) rules pieces ≡ rules_from false (suc L) rules pieces)
    → after_size true L st pieces ≡ after_size false L st pieces
same_after L pieces (fault r) f = refl
same_after L pieces (next rules) f = f rules

pub same-rules : (L : ℕ) (rules : Rules) (pieces : List (List ℕ)) → T (none_passed pieces) → rules_from true L rules pieces ≡ rules_from false L rules pieces
unfolding rules_from
same-rules L rules [] h = refl
same-rules L rules (rest ∷ []) h = refl
same-rules L rules (line ∷ another ∷ more) h =
    let none = first-not line another more h in
    let n = rules.size.settings in
    let m = rules.size.posts in
    elim (decide (is_of_rules false n m line)) [
      | inl t ↦ (let yes = T→true (is_of_rules false n m line) t in
          rules-line true L rules line another more (same_form line none n m ∙ yes)
          ∙ ap (λ (st : Step Rules). after_size true L st (another ∷ more)) (same_step line none L rules)
          ∙ same_after L (another ∷ more) (line_step false L rules line) (λ v. same-rules (suc L) v (another ∷ more) (others_not line another more h))
          ∙ sym (rules-line false L rules line another more yes))
      | inr t ↦ (let other = T→false (is_of_rules false n m line) t in
          rules_end true L rules line another more (same_form line none n m ∙ other) ∙ sym (rules_end false L rules line another more other))
    ]

same_size : (most L : ℕ) (pieces : List (List ℕ)) → T (none_passed pieces) → size_from true most L pieces ≡ size_from false most L pieces
unfolding size_from
same_size most L [] h = refl
same_size most L (rest ∷ []) h = refl
same_size most L (line ∷ another ∷ more) h =
    ap (λ (b : Bool). cond b (size_from true most (suc L) (another ∷ more)) (after_size true L (size_step most L line) (another ∷ more))) (first-not line another more h)
    ∙ same_after L (another ∷ more) (size_step most L line) (λ v. same-rules (suc L) v (another ∷ more) (others_not line another more h))

-- of pieces, and of a text
pub same_read : (most : ℕ) (pieces : List (List ℕ)) → T (none_passed pieces) → rules_read true most pieces ≡ rules_read false most pieces
unfolding rules_read
same_read most pieces h = same_size most 1 pieces h

pub same_reading : (most : ℕ) (s : List ℕ) → T (none_passed (split newline s)) → rules_of true most s ≡ rules_of false most s
unfolding rules_of
same_reading most s h = ap (cond (ltb 65536 (length s)) (refused SheetLength 0)) (same_read most (split newline s) h)
