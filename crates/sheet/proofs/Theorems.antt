-- What is promised of the answer to a sheet, about `answer`'s contract: it is settled, the room included; it has at most 28,234 bytes; and for a sheet
-- that is stated demands 2 and 3, over the plans of the question that it asks.
use mathlib.Core.Path.{◌≡◌, refl, ap, ◌∙◌, subst, subst₂}
use mathlib.Core.Logic.{inl, inr}
use mathlib.Core.List.{List, [], ◌∷◌, ◌++◌}
use Prim.Native.Nat.{ℕ, ◌+◌, ◌≤◌}
use native.Mathlib.Omega.{arith}
use lib.ListN.{length, take, length-append}
use lib.Seq.{take_at}
use Rattle.ground.specs.Text.{bytes}
use Rattle.refusal.specs.Refusals.{number}
use Rattle.refusal.proofs.NumberLaws.{number_small}
use Rattle.formula_grammar.specs.Grammar.{text, meaning as truth_of, one, one_unit, one_product}
use Rattle.formula_grammar.proofs.Meaning.{unambiguous}
use Rattle.formula.specs.Read.{Accepts}
use Rattle.knowledge_acts.specs.declared.act.Act.TheVariants.{Set, Look}
use Rattle.plan.specs.Plans.{System, Plan, stop, set_then, look_then, Permitted, Works, height}
use Rattle.plan.specs.Secret.{Twins}
use Rattle.plan.proofs.Ranks.{rank-least}
use Rattle.plan.proofs.Written.{written_works, written-height}
use Rattle.plan.proofs.Secret.{secret}
use Rattle.print_room.specs.Decimal.{decimal}
use Rattle.print_answer.specs.Listed.{line, numbered, act_text, plan_text}
use Rattle.print_answer.specs.Printed.{cannot_text, reach_text, Prints}
use Rattle.print_answer.proofs.Theorems.{prints_unique, refused-length, reach_length}
use Rattle.knowledge.specs.Goal.{Goal, learn_table}
use Rattle.question.specs.Question.{system_of, start_of, NoMaking}
use Rattle.question.specs.declared.Question.{Question}
use Rattle.question.proofs.SecretLaws.{enough}
use Rattle.sheet_question.specs.Desk.{TablesOf}
use Rattle.sheet_reading.specs.Sheet.{Sheet}
use Rattle.sheet_reading.specs.Reading.{Meaning, refused, stated, sheet_meaning}
use Rattle.sheet_reading.specs.Grammar.{WellFormed}
use Rattle.sheet_reading.proofs.Taken.{stated-written}
use Rattle.sheet_reading.proofs.Bounds.{Small, small-meaning}
use Rattle.sheet.specs.Answer.{SheetAsks, sheet_book, PrintsFound, PrintsMeaning, AnswersSheet}
use Rattle.sheet.proofs.SheetQuestion.{asked_lawful, asked-most}
use Rattle.sheet_question.proofs.Stated.{tables-length}
use Rattle.sheet.proofs.OneQuestion.{same-system, same_start, tells-one}

-- ---- any two answers that the contract allows are the same, what is left in the room included

pub answer_unique : (s old : List ℕ) (r r' : ℕ) (new new' : List ℕ) → AnswersSheet s old r new → AnswersSheet s old r' new' → (r ≡ r') × (new ≡ new')
answer_unique s old r r' new new' a b = by_meaning (sheet_meaning s) refl a b
  where
    by_meaning : (o : Meaning) → sheet_meaning s ≡ o → PrintsMeaning o old r new → PrintsMeaning o old r' new' → (r ≡ r') × (new ≡ new')
    by_meaning (refused x line) m p q = prints_unique p q
    by_meaning (stated sheet) m (R, q, goal, a, x) (R', q', goal', a', y) =
        let w : WellFormed sheet = (stated-written s sheet m).0 in
        tells-one (asked_lawful w a) w.ruled.settings_most x (subst₂ (λ (S : System) (i : ℕ). PrintsFound S i old r' new') (same-system a' a) (same_start a' a) y)

-- ---- 28,234 bytes always suffice

pub answer-most : (s old : List ℕ) (r : ℕ) (new : List ℕ) → AnswersSheet s old r new → r ≤ 28234
answer-most s old r new a = by_meaning (sheet_meaning s) refl (small-meaning s) a
  where
    by_meaning : (o : Meaning) → sheet_meaning s ≡ o → Small 32770 o → PrintsMeaning o old r new → r ≤ 28234
    by_meaning (refused why line) m h p = omega (arith, p.count, refused-length (number why) line (omega (arith, number_small why)) (omega (arith, h)))
    by_meaning (stated sheet) m h (R, q, goal, a, inl (i, p, l, w, x)) =
        let S : System = system_of sheet.size.settings (sheet_book sheet R) q goal in
        let most = asked-most (stated-written s sheet m).0 a h (start_of q) p w in
        let same : height p ≡ i = written-height S p (start_of q) i w (inl l) in
        omega (arith, x.count, most.1, reach_length i p (omega (arith, most.0)) (omega (arith, most.0)))
    by_meaning (stated sheet) m h (R, q, goal, a, inr (none, x)) = omega (arith, x.count)

-- ---- demand 2: "reach" exactly when a working plan exists, the least height, and such a plan

-- what is printed for "reach" has at least 8 bytes, and `cannot` has 7
some-line : (d : ℕ) (p : Plan) → 1 ≤ length (plan_text d p)
some-line d stop = omega (arith, length-append (decimal d ++ bytes " " ++ bytes "stop") (10 ∷ []))
some-line d (set_then i q b p) = omega (arith, length-append (numbered d (act_text (Set i q b))) (plan_text (d + 1) p), some-line (d + 1) p)
some-line d (look_then i q p r) =
    omega (arith, length-append (numbered d (act_text (Look i q)) ++ plan_text (d + 1) p) (plan_text (d + 1) r), some-line (d + 1) r)

reach_long : (h : ℕ) (p : Plan) → 8 ≤ length (reach_text h p)
reach_long h p =
    omega (arith, length-append (line (bytes "reach " ++ decimal h)) (plan_text 0 p), length-append (bytes "reach " ++ decimal h) (10 ∷ []), length-append (bytes "reach ") (decimal h), some-line 0 p)

module _ (s old : List ℕ) (r : ℕ) (new : List ℕ) {sheet : Sheet} {rights : List ℕ} {q : Question} {goal : Goal}
    (m : sheet_meaning s ≡ stated sheet) (asked : SheetAsks sheet rights q goal) (a : AnswersSheet s old r new) where
  told : PrintsFound (system_of sheet.size.settings (sheet_book sheet rights) q goal) (start_of q) old r new
  told =
      let b = subst (λ (o : Meaning). PrintsMeaning o old r new) m a in
      subst₂ (λ (S : System) (i : ℕ). PrintsFound S i old r new) (same-system b.3 asked) (same_start b.3 asked) b.4

  -- where a plan works, `reach` is printed with the least height of one and a plan of that height that works
  pub reach_printed : (p : Plan) → Works (system_of sheet.size.settings (sheet_book sheet rights) q goal) (start_of q) p
      → (h : ℕ) × (t : Plan) × Works (system_of sheet.size.settings (sheet_book sheet rights) q goal) (start_of q) t × (height t ≡ h)
      × ((u : Plan) → Works (system_of sheet.size.settings (sheet_book sheet rights) q goal) (start_of q) u → h ≤ height u) × Prints old (reach_text h t) r new
  reach_printed p works = elim told [
    | inl (h, t, l, w, x) ↦ (let S = system_of sheet.size.settings (sheet_book sheet rights) q goal in
        let k = start_of q in
        (h, t, written_works S t k w, written-height S t k h w (inl l), (λ u v. rank-least S k (inl l) u v), x))
    | inr (none, x) ↦ absurd (none p works)
  ]

  -- where none works, `cannot` is
  pub cannot_printed : ((p : Plan) → Works (system_of sheet.size.settings (sheet_book sheet rights) q goal) (start_of q) p → ⊥) → Prints old cannot_text r new
  cannot_printed none = elim told [
    | inl (h, t, l, w, x) ↦ absurd (none t (written_works (system_of sheet.size.settings (sheet_book sheet rights) q goal) t (start_of q) w))
    | inr (also, x) ↦ x
  ]

  -- and the other way: what is printed tells which, by its length alone
  pub reach_means : (h : ℕ) (p : Plan) → Prints old (reach_text h p) r new → (t : Plan) × Works (system_of sheet.size.settings (sheet_book sheet rights) q goal) (start_of q) t
  reach_means h p printed = elim told [
    | inl (j, t, least, w, x) ↦ (t, written_works (system_of sheet.size.settings (sheet_book sheet rights) q goal) t (start_of q) w)
    | inr (none, x) ↦ absurd (omega (arith, x.count, printed.count, reach_long h p))
  ]

  pub cannot_means : Prints old cannot_text r new → (p : Plan) → Works (system_of sheet.size.settings (sheet_book sheet rights) q goal) (start_of q) p → ⊥
  cannot_means printed p works = elim told [
    | inl (h, t, least, w, x) ↦ omega (arith, x.count, printed.count, reach_long h t)
    | inr (none, x) ↦ none p works
  ]

  -- ---- demand 3: what "cannot" means for a secret

  -- "No making: the make formula is `1`"
  pub no_making : sheet.asked.make ≡ bytes "1" → NoMaking sheet.size.settings goal
  unfolding text truth_of
  no_making e v h =
      asked.made.table.tells v h ∙ unambiguous asked.made.parsed.sentence (one_product (one_unit one)) (asked.made.parsed.written ∙ e) v

  -- for a sheet with no making that asks one formula F and is answered `cannot`: for every permitted plan there are two starting valuations, both agreeing
  -- with what the team knew, that give F different values, and on which the plan does the same acts and sees the same readings
  pub cannot_secret : Prints old cannot_text r new → NoMaking sheet.size.settings goal → (F : List ℕ) → sheet.asked.asks ≡ F ∷ []
      → (p : Plan) → Permitted (system_of sheet.size.settings (sheet_book sheet rights) q goal) (start_of q) p
      → (t : List ℕ) × Accepts sheet.size.settings F t × Twins sheet.size.settings t (start_of q) p
  unfolding learn_table
  cannot_secret printed making F asks p permitted =
      let w : WellFormed sheet = (stated-written s sheet m).0 in
      let n : ℕ = sheet.size.settings in
      let b = subst (λ (Fs : List (List ℕ)). TablesOf n Fs goal.learn) asks asked.learnt in
      let size : length goal.learn ≡ 16 = tables-length n (F ∷ []) goal.learn b in
      let same : learn_table goal.learn 0 ≡ b.0 = ap (take 16) b.4 ∙ take_at b.0 b.1 16 b.2.table.sixteen in
      let twins =
      secret n (learn_table goal.learn 0) (asked_lawful w asked)
      (enough (sheet_book sheet rights) q goal n making (omega (arith, size)))
      (start_of q) (cannot_means printed) p permitted
      in
      (b.0, b.2, subst (λ (t : List ℕ). Twins n t (start_of q) p) same twins)
