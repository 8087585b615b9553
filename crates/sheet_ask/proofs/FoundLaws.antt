-- What the finder answers to a valid question, case by case: it refuses 13 alone, since every plan fits a room of 32,640 bytes; and what it found can be
-- printed. One thing alone is printed.
use mathlib.Core.Path.{◌≡◌, sym, ap, ◌∙◌, subst, subst₂}
use mathlib.Core.Logic.{inl, inr}
use mathlib.Core.List.{List}
use Prim.Native.Nat.{ℕ, ◌^◌, ◌≤◌, ◌<◌}
use native.Mathlib.Omega.{arith}
use lib.ListN.{length, take, drop, length-append}
use lib.Seq.{take_at, ext_get_or}
use Rattle.std.proofs.Common.{Result, Ok, Err}
use Rattle.ground.proofs.Bools.{lt_or_ge}
use Rattle.ground.proofs.Search.{least_unique}
use Rattle.refusal.specs.declared.Refusal.{Refusal}
use Rattle.refusal.specs.declared.Numbers.{Numbers}
use Rattle.refusal.specs.Refusals.{numbers, number, place}
use Rattle.refusal.proofs.OrderLaws.{first_unique, first-clear}
use Rattle.book_sound.proofs.Theorems.{sound-one}
use Rattle.knowledge.specs.Goal.{Goal}
use Rattle.plan.specs.Plans.{System, Lawful, Plan, height}
use Rattle.plan.specs.Ranks.{Written}
use Rattle.plan.specs.Bytes.{encode}
use Rattle.plan.proofs.Ranks.{has-rank, rank_reach, rank_unique}
use Rattle.plan.proofs.Size.{works_permitted}
use Rattle.plan.proofs.Written.{written_works, written-height, written_unique}
use Rattle.plan.proofs.Accepted.{written-most}
use Rattle.print_answer.specs.Listed.{Lettered}
use Rattle.print_answer.specs.Printed.{refused_text, reach_text, Prints}
use Rattle.print_answer.proofs.Theorems.{permitted-lettered, prints_unique}
use Rattle.question.specs.Question.{start_of}
use Rattle.question.specs.Asks.{ValidQuestion}
use Rattle.question.specs.declared.Question.{Question}
use Rattle.question.proofs.SystemLaws.{lawful, few}
use Rattle.finder.specs.Finds.{RanksFilled, Finds}
use Rattle.finder.specs.Answers.{AnswersFrom}
use Rattle.finder.specs.declared.answer.Answer.{Answer}
use Rattle.finder.specs.declared.answer.Answer.TheVariants.{Reach, Cannot}
use Rattle.finder.proofs.FindLaws.{short-table, find_clear}
use Rattle.sheet_ask.specs.Asks.{PrintsFound, PrintsAsked}
use Rattle.sheet_ask.specs.Inner.{Readable, Tells}

-- ---- a written plan is short

module _ {n : ℕ} {S : System} (law : Lawful n S) (small : n ≤ 7) (k : ℕ) where
  -- "It never has more than 32,640 bytes", nor more than 254 acts on a branch
  pub plan-most : (p : Plan) → Written S k p → (height p < 255) × (length (encode p) ≤ 32640)
  plan-most p w =
      let r = has-rank law k in
      let low : r.0 < 255 = (rank_reach law k r.0 small r.1).1 (p, written_works S p k w) in
      (omega (arith, low, written-height S p k r.0 w r.1), written-most law small k p r.0 w r.1 low)

  -- what is printed for the answer is one thing alone
  pub found-one : {old new new' : List ℕ} {r r' : ℕ} → PrintsFound S k old r new → PrintsFound S k old r' new' → (r ≡ r') × (new ≡ new')
  found-one {old} {new} {new'} {r} {r'} (inl (h, p, l, w, x)) (inl (j, s, m, v, y)) =
      prints_unique x (subst₂ (λ (i : ℕ) (t : Plan). Prints old (reach_text i t) r' new') (least_unique m l) (written_unique law small s p k v w) y)
  found-one (inl (h, p, l, w, x)) (inr (none, y)) = absurd (none p (written_works S p k w))
  found-one (inr (none, x)) (inl (j, s, m, v, y)) = absurd (none s (written_works S s k v))
  found-one (inr (none, x)) (inr (also, y)) = prints_unique x y

pub ranks-one : {n : ℕ} {S : System} {old new other : List ℕ} → RanksFilled n S old new → RanksFilled n S old other → new ≡ other
ranks-one {n} {S} {old} {new} {other} a b =
    ext_get_or 0 new other (a.size ∙ sym b.size)
    (λ j h. elim (lt_or_ge j (7 ^ n)) [ inl l ↦ rank_unique S j (a.ranks j l) (b.ranks j l) | inr l ↦ a.later j l ∙ sym (b.later j l) ])

-- a refusal's numbers are printed
pub numbers-printed : (why : Refusal) {k : Numbers} {old new : List ℕ} {r : ℕ} → k ≡ numbers why → Prints old (refused_text k.number k.place) r new
    → Prints old (refused_text (number why) (place why)) r new
numbers-printed why {k} {old} {new} {r} e p = subst (λ (x : Numbers). Prints old (refused_text x.number x.place) r new) e p

-- ---- what is answered from the start of a lawful system can be printed, and it is reach or cannot, since every plan fits its room

module _ {n : ℕ} {S : System} (law : Lawful n S) (small : n ≤ 7) (start : ℕ) (plan plan' : List ℕ) where
  module _ {h size : ℕ} (a : AnswersFrom S start plan (Ok (Reach h size)) plan') where
    tree : Plan
    tree = a.1.0

    plan-bytes : take size plan' ≡ encode tree
    unfolding tree
    plan-bytes = ap (take size) a.1.4 ∙ take_at (encode tree) (drop size plan) size (sym a.1.2)

    lettered : Lettered tree
    unfolding tree
    lettered = permitted-lettered law small tree start (works_permitted S tree start (written_works S tree start a.1.1))

    plan-fits : size ≤ length plan'
    plan-fits = omega (arith, ap length a.1.4, length-append (encode a.1.0) (drop size plan), a.1.2)

  pub answers-readable : (x : Result Answer Refusal) → AnswersFrom S start plan x plan' → Readable x plan'
  unfolding tree
  answers-readable (Ok (Reach h size)) a =
      (plan-fits a, (tree a, plan-bytes a, lettered a), omega (arith, ap length (plan-bytes a), (plan-most law small start (tree a) a.1.1).1))
  answers-readable (Ok Cannot) a = tt
  answers-readable (Err why) a = tt

  pub answers-told : (x : Result Answer Refusal) (old : List ℕ) (r : ℕ) (new : List ℕ) → length plan ≡ 32640 → AnswersFrom S start plan x plan' → Tells x plan' old r new
      → PrintsFound S start old r new
  unfolding tree
  answers-told (Ok (Reach h size)) old r new l a f = inl (h, tree a, a.0, a.1.1, f (tree a) (plan-bytes a) (lettered a))
  answers-told (Ok Cannot) old r new l a f = inr (a.0, f)
  answers-told (Err why) old r new l a f = absurd (omega (arith, l, a.1.2, (plan-most law small start a.1.0 a.1.1).1))

-- ---- the finder's answer: of a valid question it refuses 13 alone

module _ {book : List ℕ} {q : Question} {goal : Goal} {n m : ℕ} (v : ValidQuestion book q goal n m)
    (ranks plan : List ℕ) (answer : Result Answer Refusal) (ranks' plan' : List ℕ) (found : Finds book q goal ranks plan answer ranks' plan') where
  pub found-readable : Readable answer plan'
  found-readable = by_case found
    where
      by_case : Finds book q goal ranks plan answer ranks' plan' → Readable answer plan'
      by_case (inl u) = subst (λ (x : Result Answer Refusal). Readable x plan') (sym u.answered) tt
      by_case (inr (k, l, w, enough, filled, answered)) = answers-readable (lawful w) (few w) (start_of q) plan plan' answer answered

  pub found-told : (old : List ℕ) (r : ℕ) (new : List ℕ) → length plan ≡ 32640 → Tells answer plan' old r new → PrintsAsked n book q goal ranks old r ranks' new
  found-told old r new size told = by_case found
    where
      by_case : Finds book q goal ranks plan answer ranks' plan' → PrintsAsked n book q goal ranks old r ranks' new
      by_case (inl u) =
          let f = subst (λ (x : Result Answer Refusal). Tells x plan' old r new) u.answered told in
          elim (lt_or_ge (length ranks) (7 ^ n)) [
            | inl l ↦ inl (
              l,
              record {
                ranks_kept = u.ranks_kept;
                printed = subst (λ (w : Refusal). Prints old (refused_text (number w) (place w)) r new) (first_unique u.first (short-table v ranks l)) f;
              },
            )
            | inr l ↦ first-clear u.first (find_clear v ranks l)
          ]
      by_case (inr (k, l, w, enough, filled, answered)) =
          subst (λ (i : ℕ). PrintsAsked i book q goal ranks old r ranks' new) (sound-one w.sound v.sound).0
          (inr (enough, filled, answers-told (lawful w) (few w) (start_of q) plan plan' answer old r new size answered told))
