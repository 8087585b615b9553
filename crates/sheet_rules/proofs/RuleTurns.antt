-- Each way out of the function for a line that states a right: its mark tells whether it is stated already.
use mathlib.Core.Path.{◌≡◌, refl, sym, ap, ap₂, ◌∙◌, subst}
use mathlib.Core.Bool.{Bool, true, false, ◌&&◌, cond}
use mathlib.Core.List.{List}
use Prim.Native.Nat.{ℕ, ◌+◌, ◌-◌, ◌<◌}
use native.Mathlib.Omega.{arith}
use lib.Dec.{T}
use lib.ListN.{length, get_or, take, drop}
use Rattle.std.proofs.Common.{Result}
use Rattle.ground.specs.Text.{bytes}
use Rattle.refusal.specs.declared.Refusal.{Refusal}
use Rattle.refusal.specs.declared.Refusal.TheVariants.{Twice}
use Rattle.formula.specs.Read.{Accepts}
use Rattle.book_block.specs.declared.rule.Right.{Right}
use Rattle.book_block.specs.declared.rule.Right.TheVariants.{Look, Set}
use Rattle.sheet_words.specs.Words.{passed_over}
use Rattle.sheet_words.proofs.Pieces.{tail}
use Rattle.sheet_rules.specs.Rules.{Rule, Rules, with_rule, is_stated}
use Rattle.sheet_rules.specs.Forms.{is_rule, rule_of, is_of_rules}
use Rattle.sheet_rules.specs.Steps.{rule_step, line_step}
use Rattle.sheet_words.specs.Steps.{Step, fault, next, unless_refused}
use Rattle.sheet_rules.specs.Desk.{slot_of, mark_of, OnDesk}
use Rattle.sheet_rules.specs.Turns.{ruled_desk, Turns}
use Rattle.sheet_rules.specs.declared.desk.RulesDesk.{RulesDesk}
use Rattle.sheet_rules.proofs.FormLaws.{RuleBounds, of_rules_by}
use Rattle.sheet_rules.proofs.StepLaws.{rule-twice, rule_once, line_by}
use Rattle.sheet_rules.proofs.SlotLaws.{slot_small}
use Rattle.sheet_rules.proofs.DeskLaws.{holds-rule}

-- the mark of a right
marked-stated : (b : Bool) {mark : ℕ} → mark ≡ mark_of b → (mark ≡ 0 → ⊥) → b ≡ true
marked-stated true e h = refl
marked-stated false e h = absurd (h e)

unmarked_free : (b : Bool) {mark : ℕ} → mark ≡ mark_of b → mark ≡ 0 → b ≡ false
unmarked_free true e h = absurd (omega (arith, e, h))
unmarked_free false e h = refl

module _ (rules : Rules) (d : RulesDesk) (h : OnDesk rules d) (right : Right) (w line : List ℕ) (bounds : RuleBounds w d.settings d.posts line) (i q : ℕ)
    (setting : i ≡ get_or line (length w) 0 - 97) (post : q ≡ get_or line (length w + 2) 0 - 49) (slot : ℕ) (is : slot ≡ slot_of right i q) where
  the_rule : Rule
  the_rule = rule_of w right line

  setting-fits : i < d.settings
  setting-fits = omega (arith, bounds.setting-most, bounds.setting-least)

  post-fits : q < d.posts
  post-fits = omega (arith, bounds.post-most, bounds.post-least)

  own_mark : get_or d.stated slot 0 ≡ mark_of (is_stated rules.rules right i q)
  own_mark =
      ap (λ (k : ℕ). get_or d.stated k 0) is
      ∙ h.marks right i q (omega (arith, setting-fits, h.settings_most)) (omega (arith, post-fits, h.posts_most))

  -- it is one of 112
  pub slot_fits : slot < 112
  slot_fits =
      subst (λ (k : ℕ). k < 112) (sym is)
      (slot_small right i q (omega (arith, setting-fits, h.settings_most)) (omega (arith, post-fits, h.posts_most)))

  of_rule : is_stated rules.rules right i q ≡ is_stated rules.rules the_rule.right the_rule.setting the_rule.post
  unfolding the_rule rule_of
  of_rule = cc

  module _ (L : ℕ) where
    pub line-twice : (get_or d.stated slot 0 ≡ 0 → ⊥) → rule_step L rules (rule_of w right line) ≡ fault (Twice L)
    unfolding the_rule
    line-twice m = rule-twice L rules the_rule (sym of_rule ∙ marked-stated (is_stated rules.rules right i q) own_mark m)

    module _ (m : get_or d.stated slot 0 ≡ 0) where
      free : is_stated rules.rules the_rule.right the_rule.setting the_rule.post ≡ false
      free = sym of_rule ∙ unmarked_free (is_stated rules.rules right i q) own_mark m

      behind : (F : List ℕ) → F ≡ the_rule.text → (st : Step Rules) (x : Result RulesDesk Refusal) → Turns (unless_refused d.settings F st) x
          → Turns (unless_refused rules.size.settings the_rule.text st) x
      behind F e st x s =
          subst (λ (n : ℕ). Turns (unless_refused n the_rule.text st) x) h.settings
          (subst (λ (F : List ℕ). Turns (unless_refused d.settings F st) x) e s)

      -- the formula behind the words is the rule's, and its table goes to the rule's slot
      pub line_read : (x : Result RulesDesk Refusal)
          → ((v : Rules) → ((t : List ℕ) → Accepts d.settings (take (length line - (length w + 4)) (drop (length w + 4) line)) t → OnDesk v (ruled_desk d slot t))
          → Turns (unless_refused d.settings (take (length line - (length w + 4)) (drop (length w + 4) line)) (next v)) x)
          → Turns (rule_step L rules (rule_of w right line)) x
      unfolding the_rule rule_of
      line_read x f =
          subst (λ (s : Step Rules). Turns s x) (sym (rule_once L rules the_rule free))
          (behind (take (length line - (length w + 4)) (drop (length w + 4) line)) (tail line (length w + 4)) (next (with_rule rules the_rule)) x
          (f (with_rule rules the_rule) (λ t a.
          subst (λ (k : ℕ). OnDesk (with_rule rules the_rule) (ruled_desk d k t)) (sym (cc))
          (holds-rule rules d h the_rule t (omega (arith, bounds.setting-most, bounds.setting-least)) (omega (arith, bounds.post-most, bounds.post-least)) free a.table.sixteen
          (subst (λ (F : List ℕ). Accepts d.settings F t) (tail line (length w + 4)) a)))))

-- ---- a line after the size, by the first form that fits; the desk's size is the rules'

module _ (passes : Bool) (rules : Rules) (d : RulesDesk) (h : OnDesk rules d) (line : List ℕ) (L : ℕ) where
  pub line_of : (a b : Bool) → (passes && passed_over line) ≡ a → is_rule (bytes "read ") d.settings d.posts line ≡ b
      → line_step passes L rules line ≡ cond a (next rules) (cond b (rule_step L rules (rule_of (bytes "read ") Look line)) (rule_step L rules (rule_of (bytes "write ") Set line)))
  line_of a b p q = line_by passes L rules line a b p (ap₂ (λ (n m : ℕ). is_rule (bytes "read ") n m line) (sym h.settings) (sym h.posts) ∙ q)

  pub of_rules : {b : Bool} → is_of_rules passes d.settings d.posts line ≡ b → is_of_rules passes rules.size.settings rules.size.posts line ≡ b
  of_rules e = ap₂ (λ (n m : ℕ). is_of_rules passes n m line) (sym h.settings) (sym h.posts) ∙ e

-- a line of the rules that is not passed over and states no look states a set
pub set-left : (passes : Bool) (n m : ℕ) (line : List ℕ) → T (is_of_rules passes n m line) → (passes && passed_over line) ≡ false → is_rule (bytes "read ") n m line ≡ false
    → T (is_rule (bytes "write ") n m line)
set-left passes n m line t p q = subst T (of_rules_by passes n m line false false _ p q refl) t
