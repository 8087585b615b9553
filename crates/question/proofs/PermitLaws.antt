-- What the held settings and the rules of a book say of an act: they permit it exactly where paper 01 says so, and else the reason is one of four.
-- And what `permits` has found: of a set that they permit, also whether it changes nothing.
use mathlib.Core.Path.{◌≡◌, refl, sym, ap, ◌∙◌}
use mathlib.Core.Bool.{Bool, true, false, not, ◌&&◌, cond}
use mathlib.Core.List.{List}
use Prim.Native.Nat.{ℕ, ◌≤◌}
use lib.Dec.{eqb, leb}
use lib.ListN.{drop}
use borrow.Author.Tests.{eq-eqb, ne_eqb, le-leb}
use Rattle.ground.specs.Digits.{bit}
use Rattle.ground.proofs.Bools.{and_false, and_true}
use Rattle.refusal.specs.declared.Why.TheVariants.{KnownSetting, NotKnown, HeldSetting}
use Rattle.book_block.specs.Rule.{rule, rule_place}
use Rattle.book_block.specs.declared.rule.Right.{Right}
use Rattle.book_block.specs.declared.rule.Right.TheVariants.{Look as look-rule, Set as set-rule}
use Rattle.knowledge_acts.specs.Seven.{told, now_told}
use Rattle.knowledge_acts.specs.declared.act.Act.{Act}
use Rattle.knowledge_acts.specs.declared.act.Act.TheVariants.{Set, Look}
use Rattle.knowledge.specs.Fits.{now_side}
use Rattle.knowledge.specs.Judgement.{judgement, holds, known}
use Rattle.knowledge.specs.declared.judgement.Judgement.{Judgement}
use Rattle.knowledge.specs.declared.judgement.Judgement.TheVariants.{TrueAtAll, FalseAtAll, Neither}
use Rattle.knowledge.proofs.JudgementLaws.{judgement-take}
use Rattle.plan.specs.Plans.{given}
use Rattle.plan.specs.declared.Permit.{Permit}
use Rattle.plan.specs.declared.Permit.TheVariants.{Given, Denied, ChangesNothing}
use Rattle.plan.specs.Without.{changes_nothing, unless_nothing}
use Rattle.plan.proofs.Unchanged.{unless_denied}
use Rattle.question.specs.Permitted.{by_rule, by_look, by_set, ruled, permitted}

given-rule : (j : Judgement) → given (by_rule j) ≡ holds j
given-rule TrueAtAll = refl
given-rule FalseAtAll = refl
given-rule Neither = refl

given_look : (b : Bool) (said : Permit) → given (by_look b said) ≡ given said && b
given_look true said = sym (and_true (given said))
given_look false said = sym (and_false (given said))

given-set : (b : Bool) (said : Permit) → given (by_set b said) ≡ given said && not b
given-set true Given = refl
given-set true (Denied why) = refl
given-set true ChangesNothing = refl
given-set false said = sym (and_true (given said))

module _ (n : ℕ) (book : List ℕ) (held : ℕ) (d : ℕ → ℕ) (i q : ℕ) where
  -- "set a setting false or true, where its set rule for that post is known to hold", and the setting is not held
  pub set_given : (b : Bool) → given (ruled n book held d (Set i q b)) ≡ known n d (rule book i q set-rule) && not (bit held i)
  unfolding ruled known
  set_given b =
      given-set (bit held i) (by_rule (judgement n (now_side d) (rule book i q set-rule)))
      ∙ ap (λ (b : Bool). b && not (bit held i)) (given-rule (judgement n (now_side d) (rule book i q set-rule)))

  -- "look, where the look rule is known to hold and the digit is 0"
  pub look_given : given (ruled n book held d (Look i q)) ≡ known n d (rule book i q look-rule) && eqb (d i) 0
  unfolding ruled known
  look_given =
      given_look (eqb (d i) 0) (by_rule (judgement n (now_side d) (rule book i q look-rule)))
      ∙ ap (λ (b : Bool). b && eqb (d i) 0) (given-rule (judgement n (now_side d) (rule book i q look-rule)))

-- the judgement of a rule where it stands in the book
pub rule-judged : (n : ℕ) (book : List ℕ) (d : ℕ → ℕ) (i q : ℕ) (right : Right) {from : ℕ} {j : Judgement} → n ≤ 7 → from ≡ rule_place book i q right
    → j ≡ cond (leb n 7) (judgement n (now_side d) (drop from book)) Neither → j ≡ judgement n (now_side d) (rule book i q right)
unfolding rule
rule-judged n book d i q right few place e =
    rw (le-leb n 7 few, place) at e ∙ sym (judgement-take n (now_side d) (drop (rule_place book i q right) book) few)

-- what `permits` has found, of up to seven settings
module _ {n : ℕ} (few : n ≤ 7) (book : List ℕ) (held : ℕ) (d : ℕ → ℕ) (i q : ℕ) where
  abbrev says : Act → Permit
  says a = cond (leb n 7) (permitted n book held d a) (Denied NotKnown)

  pub set_says : (b : Bool) {r said : Permit} {at : ℕ} → bit held i ≡ false → said ≡ by_rule (judgement n (now_side d) (rule book i q set-rule)) → at ≡ d i
      → r ≡ unless_nothing (eqb (now_told at) (told b)) said → r ≡ says (Set i q b)
  unfolding permitted ruled changes_nothing
  set_says b free s here e = e ∙ rw (le-leb n 7 few, free, s, here)

  pub set_of_held : (b : Bool) → bit held i ≡ true → Denied HeldSetting ≡ says (Set i q b)
  unfolding permitted ruled
  set_of_held b on = rw (le-leb n 7 few, on) (sym (unless_denied (changes_nothing d (Set i q b)) HeldSetting))

  pub look_says : {r : Permit} → d i ≡ 0 → r ≡ by_rule (judgement n (now_side d) (rule book i q look-rule)) → r ≡ says (Look i q)
  unfolding permitted ruled changes_nothing
  look_says z e = rw (le-leb n 7 few, eq-eqb (d i) 0 z) e

  pub look_at-known : (d i ≡ 0 → ⊥) → Denied KnownSetting ≡ says (Look i q)
  unfolding permitted ruled changes_nothing
  look_at-known ne = rw (le-leb n 7 few, ne_eqb (d i) 0 ne)
