-- What the team may do at a knowledge number, from what the code asked of its state; and a search over the posts.
use mathlib.Core.Path.{◌≡◌, sym, ap, ◌∙◌}
use mathlib.Core.Bool.{Bool, true, false, not, ◌&&◌}
use mathlib.Core.List.{List}
use lib.ListN.{length}
use Rattle.std.specs.Bool.{MatchBool}
use Rattle.std.specs.List.{range_with_len, AllWithin, HoldsAt}
use native.Mathlib.Nat.{zero-add}
use Rattle.std.proofs.lemmas.List.FromFn.{get_or-range_with_len, length-range_with_len}
use Rattle.ground.specs.Tells.{Tells}
use Prim.Native.Nat.{ℕ, ◌^◌, ◌<◌}
use native.Mathlib.Omega.{arith}
use borrow.Author.Tests.{eq-eqb, ne_eqb}
use Rattle.ground.specs.Digits.{bit}
use Rattle.ground.proofs.Bools.{true→T, both, false→T, and_true, and_false}
use Rattle.book_block.specs.Rule.{rule}
use Rattle.book_block.specs.declared.rule.Right.TheVariants.{Look as look-rule, Set as set-rule}
use Rattle.knowledge_acts.specs.Acts.{offered}
use Rattle.knowledge_acts.specs.declared.act.Act.{Act}
use Rattle.knowledge_acts.specs.declared.act.Act.TheVariants.{Set, Look}
use Rattle.knowledge.specs.Number.{digit_in, digits_of}
use Rattle.knowledge.specs.Judgement.{known}
use Rattle.knowledge.proofs.Number.{digits_are}
use Rattle.plan.specs.Plans.{given}
use Rattle.question.specs.Permitted.{ruled}
use Rattle.question.proofs.PermitLaws.{set_given, look_given}
use Rattle.finder_plain.specs.Tries.{may_do, by_post, Someone}

-- ---- one rule, and one act

module _ (n : ℕ) (book : List ℕ) (held : ℕ) (d : ℕ → ℕ) {a : Act} {i q : ℕ} {r : Bool} where
  pub set-permitted : {b : Bool} → a ≡ Set i q b → bit held i ≡ false → r ≡ known n d (rule book i q set-rule) → r ≡ given (ruled n book held d a)
  set-permitted {b} e free f =
      rw e (f ∙ sym (and_true _) ∙ ap (λ (h : Bool). known n d (rule book i q set-rule) && not h) (sym free) ∙ sym (set_given n book held d i q b))

  pub look_permitted : a ≡ Look i q → d i ≡ 0 → r ≡ known n d (rule book i q look-rule) → r ≡ given (ruled n book held d a)
  look_permitted e z f = rw e (f ∙ sym (and_true _) ∙ ap (λ (b : Bool). known n d (rule book i q look-rule) && b) (sym (eq-eqb (d i) 0 z)) ∙ sym (look_given n book held d i q))

module _ (n : ℕ) (book : List ℕ) (held : ℕ) (d : ℕ → ℕ) {a : Act} {i q : ℕ} where
  pub set-held : {b : Bool} → a ≡ Set i q b → bit held i ≡ true → false ≡ given (ruled n book held d a)
  set-held {b} e h =
      rw e (sym (set_given n book held d i q b ∙ ap (λ (x : Bool). known n d (rule book i q set-rule) && not x) h ∙ and_false (known n d (rule book i q set-rule))))

  pub look_barred : a ≡ Look i q → (d i ≡ 0 → ⊥) → false ≡ given (ruled n book held d a)
  look_barred e ne =
      rw e (sym (look_given n book held d i q ∙ ap (λ (b : Bool). known n d (rule book i q look-rule) && b) (ne_eqb (d i) 0 ne) ∙ and_false (known n d (rule book i q look-rule))))

-- the state of a number has its digits
pub at-number : (n : ℕ) (book : List ℕ) (team held k : ℕ) (a : Act) {ds : List ℕ} {r : Bool} → k < 7 ^ 7 → ds ≡ digits_of k
    → r ≡ (offered n team a && given (ruled n book held (digit_in ds) a)) → r ≡ may_do n book team held k a
at-number n book team held k a small state e =
    e ∙ ap (λ (l : List ℕ). offered n team a && given (ruled n book held (digit_in l) a)) state
    ∙ ap (λ (d : ℕ → ℕ). offered n team a && given (ruled n book held d a)) (digits_are k small)

-- ---- a search over the posts

-- what the search over the posts found
pub someone_told : (asked m : Act → Bool) → ((b : Act) → asked b ≡ m b) → (a : Act) (r : Bool)
    → MatchBool r
    ((k : ℕ) × (k < length (range_with_len 0 8)) × HoldsAt (λ q. asked (by_post a q) ≡ true) (range_with_len 0 8) k)
    (AllWithin (λ q. asked (by_post a q) ≡ false) (range_with_len 0 8) 0 (length (range_with_len 0 8)))
    → Tells r (Someone m a)
someone_told asked m same a true (q, l, here) =
    let few : q < 8 = omega (arith, l, length-range_with_len 0 8) in
    let so : asked (by_post a q) ≡ true = rw (get_or-range_with_len 0 8 q 0 few ∙ zero-add q) at (here 0) in
    record { post = q; few = few; allowed = true→T (sym (same (by_post a q)) ∙ so) }
someone_told asked m same a false none = λ s.
    let not_so : asked (by_post a s.post) ≡ false =
    rw (get_or-range_with_len 0 8 s.post 0 s.few ∙ zero-add s.post) at (none s.post 0 (omega arith) (omega (arith, s.few, length-range_with_len 0 8))) in
    both (m (by_post a s.post)) s.allowed (false→T (sym (same (by_post a s.post)) ∙ not_so))
