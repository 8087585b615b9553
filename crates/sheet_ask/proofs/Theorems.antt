-- What is promised of what `ask` prints, about its contract: it is settled, both rooms included; it has at most 456,970 bytes; and what it is for a text of
-- one leg and of two.
use mathlib.Core.Path.{◌≡◌, sym, ◌∙◌, subst, subst₂}
use mathlib.Core.Logic.{◌⊎◌, inl, inr}
use mathlib.Core.Bool.{true}
use mathlib.Core.List.{List}
use Prim.Native.Nat.{ℕ, ◌*◌, ◌^◌, ◌≤◌}
use native.Mathlib.Omega.{arith}
use lib.ListN.{length}
use Rattle.ground.specs.Search.{Least}
use Rattle.refusal.specs.declared.Refusal.{Refusal}
use Rattle.refusal.specs.Refusals.{number, place}
use Rattle.refusal.proofs.NumberLaws.{number_small}
use Rattle.refusal.proofs.OrderLaws.{first_unique, first-clear}
use Rattle.book_sound.specs.Sound.{Sound}
use Rattle.book_sound.proofs.SoundLaws.{sound-clear}
use Rattle.book_sound.proofs.Theorems.{sound-one, book_place-small}
use Rattle.knowledge.specs.Goal.{Goal}
use Rattle.plan.specs.Plans.{System, Lawful, Plan, height}
use Rattle.plan.specs.Legs.{WorksThen, ReachThen}
use Rattle.plan.proofs.Legs.{then_works, works_then, reach_then, then_reach}
use Rattle.plan.proofs.Written.{written_works, written-height}
use Rattle.print_answer.specs.Printed.{reach_text, cannot_text, Prints}
use Rattle.print_answer.proofs.Theorems.{prints_unique, refused-length, reach_length}
use Rattle.question.specs.Question.{system_of, start_of}
use Rattle.question.specs.Asks.{ValidQuestion}
use Rattle.question.specs.Legs.{second_system, first_system, ValidLegs}
use Rattle.question.specs.declared.Question.{Question}
use Rattle.question.proofs.SystemLaws.{lawful, few}
use Rattle.question.proofs.LegLaws.{first_leg_lawful, second_lawful}
use Rattle.sheet_question.specs.Asked.{Asked}
use Rattle.sheet_question.specs.Question.{QuestionMeaning, refused, asked, question_meaning}
use Rattle.sheet_words.specs.Words.{split, newline}
use Rattle.sheet_legs.specs.Legs.{whole, cut_lines, LegsMeaning, refused_at, one, two, one_leg, legs_meaning}
use Rattle.sheet_legs.proofs.CutLaws.{no_then, one-asked}
use Rattle.sheet_legs.proofs.Whole.{LegsFit, legs_fit, LegsMost, legs_most}
use Rattle.sheet_ask.specs.Asks.{QuestionAsks, SecondAsks, PrintsFound, PrintsRefused, PrintsAsked, PrintsQuestion, PrintsTwo, PrintsLegs, AsksBook}
use Rattle.sheet_ask.proofs.AskedQuestion.{asked-valid, asked_legs, same-goal, same_question, same_second, same_wanted}
use Rattle.sheet_ask.proofs.FoundLaws.{plan-most, found-one, ranks-one}
use Rattle.sheet_ask.proofs.TwoLaws.{both_one}

-- ---- any two answers that the contract allows are the same, what is left in both rooms included

-- two lengths, two rank tables and two rooms are the same
abbrev Same : ℕ → ℕ → List ℕ → List ℕ → List ℕ → List ℕ → Type 0
Same r s x y u v = (r ≡ s) × (x ≡ y) × (u ≡ v)

refused-one : {code at : ℕ} {ranks out x y u v : List ℕ} {r s : ℕ} → PrintsRefused code at ranks out r x u → PrintsRefused code at ranks out s y v → Same r s x y u v
refused-one a b = let z = prints_unique a.printed b.printed in (z.0, a.ranks_kept ∙ sym b.ranks_kept, z.1)

-- what is printed for an answer is short
found-most : {n : ℕ} {S : System} (law : Lawful n S) (small : n ≤ 7) (k : ℕ) {out u : List ℕ} {r : ℕ} → PrintsFound S k out r u → r ≤ 456970
found-most {n} {S} law small k (inl (h, p, least, w, t)) =
    let most = plan-most law small k p w in
    let same : height p ≡ h = written-height S p k h w (inl least) in
    omega (arith, t.count, most.1, reach_length h p (omega (arith, most.0)) (omega (arith, most.0)))
found-most law small k (inr (none, t)) = omega (arith, t.count)

module _ {book : List ℕ} {q : Question} {goal : Goal} {n m : ℕ} (v : ValidQuestion book q goal n m) where
  printed-one : {ranks out x y u w : List ℕ} {r s : ℕ} → PrintsAsked n book q goal ranks out r x u → PrintsAsked n book q goal ranks out s y w → Same r s x y u w
  printed-one (inl (l, a)) (inl (k, b)) = refused-one a b
  printed-one (inl (l, a)) (inr (k, f, b)) = absurd (omega (arith, l, k))
  printed-one (inr (l, f, a)) (inl (k, b)) = absurd (omega (arith, l, k))
  printed-one (inr (l, f, a)) (inr (k, g, b)) = let z = found-one (lawful v) (few v) (start_of q) a b in (z.0, ranks-one f g, z.1)

  -- and it is short
  printed-most : {ranks out x u : List ℕ} {r : ℕ} → PrintsAsked n book q goal ranks out r x u → r ≤ 456970
  printed-most (inl (l, a)) = omega (arith, a.printed.count, refused-length 13 0 (omega arith) (omega arith))
  printed-most (inr (l, f, t)) = found-most (lawful v) (few v) (start_of q) t

module _ {book : List ℕ} {q : Question} {goal : Goal} {second : ℕ} {wanted : Goal} {n m : ℕ} (v : ValidLegs book q goal second wanted n m) where
  two-printed-one : {ranks out x y u w : List ℕ} {r s : ℕ} → PrintsTwo n book q goal second wanted ranks out r x u → PrintsTwo n book q goal second wanted ranks out s y w
      → Same r s x y u w
  two-printed-one (inl (l, a)) (inl (k, b)) = refused-one a b
  two-printed-one (inl (l, a)) (inr (inl (k, i, b))) = absurd (omega (arith, l, k))
  two-printed-one (inl (l, a)) (inr (inr (k, f, b))) = absurd (omega (arith, l, k))
  two-printed-one (inr (inl (l, i, a))) (inl (k, b)) = absurd (omega (arith, l, k))
  two-printed-one (inr (inl (l, i, a))) (inr (inl (k, j, b))) = refused-one a b
  two-printed-one (inr (inl (l, i, a))) (inr (inr (k, f, b))) = absurd (omega (arith, i, k))
  two-printed-one (inr (inr (l, f, a))) (inl (k, b)) = absurd (omega (arith, l, k))
  two-printed-one (inr (inr (l, f, a))) (inr (inl (k, j, b))) = absurd (omega (arith, l, j))
  two-printed-one (inr (inr (l, f, a))) (inr (inr (k, g, b))) =
      let z = found-one (first_leg_lawful book q goal second wanted v) (few v.first) (start_of q) a b in (z.0, both_one f g, z.1)

  two-printed-most : {ranks out x u : List ℕ} {r : ℕ} → PrintsTwo n book q goal second wanted ranks out r x u → r ≤ 456970
  two-printed-most (inl (l, a)) = omega (arith, a.printed.count, refused-length 13 1 (omega arith) (omega arith))
  two-printed-most (inr (inl (l, i, a))) = omega (arith, a.printed.count, refused-length 13 2 (omega arith) (omega arith))
  two-printed-most (inr (inr (l, f, t))) = found-most (first_leg_lawful book q goal second wanted v) (few v.first) (start_of q) t

module _ {book : List ℕ} {n m : ℕ} (sound : Sound book n m) (text : List ℕ) where
  legs_printed-one : (ranks out x y u w : List ℕ) (r s : ℕ) → PrintsLegs n book (legs_meaning n m text) ranks out r x u
      → PrintsLegs n book (legs_meaning n m text) ranks out s y w → Same r s x y u w
  legs_printed-one ranks out x y u w r s a b = by_meaning (legs_meaning n m text) (legs_fit n m text) a b
    where
      by_meaning : (o : LegsMeaning) → LegsFit n m o → PrintsLegs n book o ranks out r x u → PrintsLegs n book o ranks out s y w → (r ≡ s) × (x ≡ y) × (u ≡ w)
      by_meaning (refused_at why line) fit p t = refused-one p t
      by_meaning (one a) fit (q, goal, k, p) (q', goal', l, t) =
          printed-one (asked-valid fit k sound) p
          (subst₂ (λ (c : Question) (g : Goal). PrintsAsked n book c g ranks out s y w) (same_question l k) (same-goal l k) t)
      by_meaning (two a b) fit (q, goal, second, wanted, k, i, p) (q', goal', second', wanted', l, j, t) =
          two-printed-one (asked_legs fit.0 k fit.1 i sound) p
          (subst₂ (λ (c : ℕ) (g : Goal). PrintsTwo n book q goal c g ranks out s y w) (same_second j i) (same_wanted j i)
          (subst₂ (λ (c : Question) (g : Goal). PrintsTwo n book c g second' wanted' ranks out s y w) (same_question l k) (same-goal l k) t))

  legs_printed-most : (ranks out x u : List ℕ) (r : ℕ) → PrintsLegs n book (legs_meaning n m text) ranks out r x u → r ≤ 456970
  legs_printed-most ranks out x u r p = by_meaning (legs_meaning n m text) (legs_fit n m text) (legs_most n m text) p
    where
      by_meaning : (o : LegsMeaning) → LegsFit n m o → LegsMost 65538 o → PrintsLegs n book o ranks out r x u → r ≤ 456970
      by_meaning (refused_at why line) fit l a = omega (arith, a.printed.count, refused-length (number why) line (omega (arith, number_small why)) (omega (arith, l)))
      by_meaning (one a) fit l (q, goal, k, p) = printed-most (asked-valid fit k sound) p
      by_meaning (two a b) fit l (q, goal, second, wanted, k, i, p) = two-printed-most (asked_legs fit.0 k fit.1 i sound) p

pub ask_unique : (book text ranks out : List ℕ) (r s : ℕ) (x y u v : List ℕ) → AsksBook book text ranks out r x u → AsksBook book text ranks out s y v
    → (r ≡ s) × (x ≡ y) × (u ≡ v)
ask_unique book text ranks out r s x y u v (inl (why, f, a)) (inl (w, g, b)) =
    refused-one a (subst (λ (z : Refusal). PrintsRefused (number z) (place z) ranks out s y v) (first_unique g f) b)
ask_unique book text ranks out r s x y u v (inl (why, f, a)) (inr (n, m, sound, b)) = first-clear f (sound-clear sound)
ask_unique book text ranks out r s x y u v (inr (n, m, sound, a)) (inl (w, g, b)) = first-clear g (sound-clear sound)
ask_unique book text ranks out r s x y u v (inr (n, m, sound, a)) (inr (k, l, other, b)) =
    let e = sound-one other sound in
    legs_printed-one sound text ranks out x y u v r s a (subst₂ (λ (i j : ℕ). PrintsLegs i book (legs_meaning i j text) ranks out s y v) e.0 e.1 b)

-- ---- 456,970 bytes always suffice

pub ask_most : (book text ranks out : List ℕ) (r : ℕ) (x u : List ℕ) → AsksBook book text ranks out r x u → r ≤ 456970
ask_most book text ranks out r x u (inl (why, f, a)) =
    omega (arith, a.printed.count, refused-length (number why) (place why) (omega (arith, number_small why)) (omega (arith, book_place-small book why f)))
ask_most book text ranks out r x u (inr (n, m, sound, a)) = legs_printed-most sound text ranks out x u r a

-- ---- what is printed for a question that is asked

module _ {book : List ℕ} {n m : ℕ} (sound : Sound book n m) (text ranks out : List ℕ) (r : ℕ) (x u : List ℕ) (printed : AsksBook book text ranks out r x u) where
  -- of a sound book, what its question text means is printed
  pub ask_legs : PrintsLegs n book (legs_meaning n m text) ranks out r x u
  ask_legs = elim printed [
    | inl (why, f, a) ↦ first-clear f (sound-clear sound)
    | inr (k, l, other, a) ↦ (let e = sound-one other sound in
        subst₂ (λ (i j : ℕ). PrintsLegs i book (legs_meaning i j text) ranks out r x u) e.0 e.1 a)
  ]

  -- of a text without a line `then`, what it means with one leg
  pub ask_told : cut_lines (split newline text) ≡ whole → PrintsQuestion n book (question_meaning 0 true n m text) ranks out r x u
  ask_told w = by_meaning (question_meaning 0 true n m text) (subst (λ (o : LegsMeaning). PrintsLegs n book o ranks out r x u) (no_then n m text w) ask_legs)
    where
      by_meaning : (o : QuestionMeaning) → PrintsLegs n book (one_leg o) ranks out r x u → PrintsQuestion n book o ranks out r x u
      by_meaning (refused why line) p = p
      by_meaning (asked a) p = p

  -- a text that asks with one leg has no such line: the answer to any question that has its names and tables
  pub ask_asked : {a : Asked} {q : Question} {goal : Goal} → question_meaning 0 true n m text ≡ asked a → QuestionAsks n a q goal → PrintsAsked n book q goal ranks out r x u
  ask_asked e k =
      let told = subst (λ (o : LegsMeaning). PrintsLegs n book o ranks out r x u) (one-asked n m text e) ask_legs in
      subst₂ (λ (c : Question) (g : Goal). PrintsAsked n book c g ranks out r x u) (same_question told.2 k) (same-goal told.2 k) told.3

  -- ---- two legs: S is the first team's system, R the second's, each with its own goal

  module _ {a b : Asked} {q : Question} {goal : Goal} {second : ℕ} {wanted : Goal} (e : legs_meaning n m text ≡ two a b)
      (k : QuestionAsks n a q goal) (i : SecondAsks n b second wanted) where
    pub ask_two : PrintsTwo n book q goal second wanted ranks out r x u
    ask_two =
        let (q', goal', second', wanted', l, j, t) = subst (λ (o : LegsMeaning). PrintsLegs n book o ranks out r x u) e ask_legs in
        subst₂ (λ (c : ℕ) (g : Goal). PrintsTwo n book q goal c g ranks out r x u) (same_second j i) (same_wanted j i)
        (subst₂ (λ (c : Question) (g : Goal). PrintsTwo n book c g second' wanted' ranks out r x u) (same_question l k) (same-goal l k) t)

    abbrev S : System
    S = system_of n book q goal

    abbrev R : System
    R = second_system n book q second wanted

    -- with room for the ranks of both legs: `reach H` and a plan of the first team that works, is of the least height of such plans, and at each of whose
    -- stops, in the knowledge reached there, the second team has a working plan; or `cannot`, and there is no such plan
    pub ask_two-answers : 2 * 7 ^ n ≤ length ranks
        → ((h : ℕ) × (p : Plan) × Least (ReachThen S R (start_of q)) h × WorksThen S R (start_of q) p × (height p ≡ h) × Prints out (reach_text h p) r u)
        ⊎ (((p : Plan) → WorksThen S R (start_of q) p → ⊥) × Prints out cannot_text r u)
    ask_two-answers room = by_case ask_two
      where
        valid : ValidLegs book q goal second wanted n m
        valid = let fit = subst (LegsFit n m) e (legs_fit n m text) in asked_legs fit.0 k fit.1 i sound

        law : Lawful n (second_system n book q second wanted)
        law = second_lawful book q goal second wanted valid

        by_case : PrintsTwo n book q goal second wanted ranks out r x u
            → ((h : ℕ) × (p : Plan) × Least (ReachThen S R (start_of q)) h × WorksThen S R (start_of q) p × (height p ≡ h) × Prints out (reach_text h p) r u)
            ⊎ (((p : Plan) → WorksThen S R (start_of q) p → ⊥) × Prints out cannot_text r u)
        by_case (inl (less, t)) = absurd (omega (arith, less, room))
        by_case (inr (inl (some, less, t))) = absurd (omega (arith, less, room))
        by_case (inr (inr (enough, filled, inl (h, p, least, w, t)))) =
            inl (
              h,
              p,
              record {
                here = reach_then law S (start_of q) h least.here;
                none_below = λ j f t. least.none_below j f (then_reach law S (start_of q) j t);
              },
              then_works law S p (start_of q) (written_works (first_system n book q goal second wanted) p (start_of q) w),
              written-height (first_system n book q goal second wanted) p (start_of q) h w (inl least),
              t,
            )
        by_case (inr (inr (enough, filled, inr (none, t)))) = inr (λ p w. none p (works_then law S p (start_of q) w), t)
