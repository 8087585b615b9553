-- The page in full strength: each answer of `find` exactly where it is due, for any room; the refusals 6 to 13 and 31 exactly; what a yes of the plan check
-- says of the question, and where it gives 18, with its second number; what is printed for a sheet, in one statement; and the refusals of a sheet exactly, by the grammar. Those of `find` follow from
-- the contract's uniqueness: the answer that is due is allowed, so it is the one given.
use mathlib.Core.Path.{◌≡◌, refl, sym, subst}
use mathlib.Core.Logic.{◌⊎◌, inl, inr, ◌↔◌}
use mathlib.Core.List.{List, ◌++◌}
use Prim.Native.Nat.{ℕ, ◌+◌, ◌^◌, ◌≤◌, ◌<◌}
use lib.ListN.{length}
use Rattle.std.specs.Prelude.{Some, Result, Ok, Err}
use Rattle.ground.specs.Search.{Least}
use Rattle.refusal.specs.declared.Refusal.{Refusal}
use Rattle.refusal.specs.declared.Why.{Why}
use Rattle.refusal.specs.declared.Why.TheVariants.{KnownSetting, SurelyFalse, NotKnown, HeldSetting}
use Rattle.refusal.specs.declared.Refusal.TheVariants.{PlanRoom, NotPermitted, Malformed, Twice, SheetLength, SheetSettings}
use Rattle.refusal.specs.Refusals.{number, numbers}
use Rattle.refusal.specs.Order.{First}
use Rattle.refusal.proofs.OrderLaws.{first-clear}
use Rattle.book_sound.proofs.Theorems.{sound-one}
use Rattle.knowledge.specs.Goal.{Goal}
use Rattle.plan.specs.Plans.{System, Lawful, Plan, Works, height}
use Rattle.plan.specs.Ranks.{Reach as ReachIn, IsRank, Written}
use Rattle.plan.specs.Bytes.{encode}
use Rattle.plan.proofs.Ranks.{has-rank, rank-least}
use Rattle.plan.proofs.Written.{written_works, written-height}
use Rattle.question.specs.Question.{system_of, start_of}
use Rattle.question.specs.Asks.{ValidQuestion}
use Rattle.question.specs.declared.Question.{Question}
use Rattle.question.proofs.SystemLaws.{lawful, few}
use Rattle.finder.specs.Answers.{AnswersFrom}
use Rattle.finder.specs.Finds.{Finds, find_rows}
use Rattle.finder.specs.declared.answer.Answer.{Answer}
use Rattle.finder.specs.declared.answer.Answer.TheVariants.{Reach, Cannot}
use Rattle.finder.proofs.FindLaws.{find_clear}
use Rattle.finder.proofs.Unique.{answers_unique, find_unique, find_refused}
use Rattle.plancheck.specs.Checks.{Checks}
use Rattle.plancheck.proofs.Theorems.{yes_exact}
use Rattle.plancheck.proofs.Denied.{DeniedAt, denied_exact}
use Rattle.print_answer.specs.Printed.{refused_text, cannot_text, reach_text, Prints}
use Rattle.sheet_reading.specs.Sheet.{Sheet}
use Rattle.sheet_reading.specs.Reading.{Meaning, sheet_meaning, refused, stated}
use Rattle.sheet_reading.specs.Grammar.{ended, size_text, sheet_text, WellFormed}
use Rattle.sheet_reading.specs.Place.{MalformedAt}
use Rattle.sheet_reading.specs.Faults.{NamesTwice, FormulaRefused, LineFault, Reaches, FaultAt, RefusedSheet}
use Rattle.sheet_reading.proofs.RefusedExactly.{refused_exactly, stated_exactly}
use Rattle.sheet_reading.proofs.ByNumber as Number
use Rattle.sheet.specs.Answer.{sheet_book, SheetAsks, PrintsMeaning, AnswersSheet}

-- ---- a plan that is written

module _ {n : ℕ} {S : System} (law : Lawful n S) (k : ℕ) (p : Plan) (w : Written S k p) where
  least_of : (r : ℕ) → IsRank S k r → Least (ReachIn S k) r
  least_of r (inl l) = l
  least_of r (inr none) = absurd (none.1 p (written_works S p k w))

  -- its height is the least
  written-least : Least (ReachIn S k) (height p)
  written-least =
      let r = has-rank law k in
      subst (Least (ReachIn S k)) (sym (written-height S p k r.0 w r.1)) (least_of r.0 r.1)

-- ---- the answers of `find` to a valid question, with room for the ranks and any plan room

module _ {book : List ℕ} {q : Question} {goal : Goal} {n m : ℕ} (valid : ValidQuestion book q goal n m) (ranks plan : List ℕ)
    (a : Result Answer Refusal) (r x : List ℕ) (room : 7 ^ n ≤ length ranks) (finds : Finds book q goal ranks plan a r x) where
  answers : AnswersFrom (system_of n book q goal) (start_of q) plan a x
  answers = by finds
    where
      by : Finds book q goal ranks plan a r x → AnswersFrom (system_of n book q goal) (start_of q) plan a x
      by (inl u) = first-clear u.first (find_clear valid ranks room)
      by (inr (k, o, w, d, f, g)) =
          subst (λ (j : ℕ). AnswersFrom (system_of j book q goal) (start_of q) plan a x) (sound-one w.sound valid.sound).0 g

  is : (b : Result Answer Refusal) (y : List ℕ) → AnswersFrom (system_of n book q goal) (start_of q) plan b y → a ≡ b
  is b y g = (answers_unique (lawful valid) (few valid) (start_of q) plan a b x y answers g).0

  -- "reach" exactly where the plan written fits the room, with its height and its length
  pub reach_exactly : (h size : ℕ) → (a ≡ Ok (Reach h size))
      ↔ ((p : Plan) × Written (system_of n book q goal) (start_of q) p × (h ≡ height p) × (size ≡ length (encode p)) × (size ≤ length plan))
  reach_exactly h size = (
    λ e. let (least, (p, w, s, l, y)) = subst (λ (b : Result Answer Refusal). AnswersFrom (system_of n book q goal) (start_of q) plan b x) e answers in
        (p, w, sym (written-height (system_of n book q goal) p (start_of q) h w (inl least)), s, l),
    λ (p, w, e, s, l). is (Ok (Reach h size)) _
        (subst (Least (ReachIn (system_of n book q goal) (start_of q))) (sym e) (written-least (lawful valid) (start_of q) p w), (p, w, s, l, refl)),
  )

  -- "cannot" exactly where no plan works
  pub cannot_exactly : (a ≡ Ok Cannot) ↔ ((p : Plan) → Works (system_of n book q goal) (start_of q) p → ⊥)
  cannot_exactly = (
    λ e. (subst (λ (b : Result Answer Refusal). AnswersFrom (system_of n book q goal) (start_of q) plan b x) e answers).0,
    λ none. is (Ok Cannot) plan (none, refl),
  )

  -- 14 exactly where the plan written does not fit
  pub room_exactly : (a ≡ Err PlanRoom)
      ↔ ((p : Plan) × Written (system_of n book q goal) (start_of q) p × (length plan < length (encode p)))
  room_exactly = (
    λ e. (subst (λ (b : Result Answer Refusal). AnswersFrom (system_of n book q goal) (start_of q) plan b x) e answers).1,
    λ p. is (Err PlanRoom) plan (refl, p, refl),
  )

-- ---- 6 to 13 and 31 of `find`, exactly: a refusal that the rows give is given, and leaves both rooms as they were; and one that is given, but for 14, is theirs

module _ (book : List ℕ) (q : Question) (goal : Goal) (ranks plan : List ℕ) (a : Result Answer Refusal) (r x : List ℕ) (finds : Finds book q goal ranks plan a r x) where
  pub rows-given : (w : Refusal) → First (find_rows book q goal ranks) w → (a ≡ Err w) × (r ≡ ranks) × (x ≡ plan)
  rows-given w f =
      find_unique book q goal ranks plan a (Err w) r ranks x plan finds
      (inl (record { why = w; answered = refl; first = f; ranks_kept = refl; plan_kept = refl }))

  pub given-rows : (w : Refusal) → a ≡ Err w → (w ≡ PlanRoom → ⊥) → First (find_rows book q goal ranks) w
  given-rows w e other =
      elim (find_refused book q goal ranks plan w r x (subst (λ (b : Result Answer Refusal). Finds book q goal ranks plan b r x) e finds)).1 [
        | inl f ↦ f.0
        | inr late ↦ absurd (other late.0)
      ]

-- ---- a yes of the plan check says that the question is valid, and that the bytes are those of a plan that works
pub yes_means : (book : List ℕ) (q : Question) (goal : Goal) (plan : List ℕ) → Checks book q goal plan (Ok tt)
    → (n : ℕ) × (m : ℕ) × ValidQuestion book q goal n m × (length plan ≤ 32640)
    × ((p : Plan) × Works (system_of n book q goal) (start_of q) p × (plan ≡ encode p))
yes_means book q goal plan said =
    let works = (yes_exact said.valid plan (Ok tt) said).0 refl in
    (said.n, said.m, said.valid, works.0, works.1)

-- ---- 18 "carries a second number": a plan of a valid question gets it exactly where an act is due that this reason denies, in the request's words
-- (question/proofs/WhyLaws `WhyNot`), and all bytes before it read without a fault
pub denied : {book : List ℕ} {q : Question} {goal : Goal} {n m : ℕ} → ValidQuestion book q goal n m → (plan : List ℕ) → length plan ≤ 32640
    → (r : Result (Unit {0}) Refusal) → Checks book q goal plan r → (i : ℕ) (why : Why) → (r ≡ Err (NotPermitted i why)) ↔ DeniedAt n book q goal plan i why
denied valid plan short r said i why = denied_exact valid plan r said short i why

-- "0 for a look at a known setting, 1 surely false, 2 not known", and for a set of a held setting "second number 3": number, place, and that
pub denied_numbers : (i : ℕ) → (numbers (NotPermitted i KnownSetting) ≡ record { number = 18; place = i; second = Some 0 })
    × (numbers (NotPermitted i SurelyFalse) ≡ record { number = 18; place = i; second = Some 1 })
    × (numbers (NotPermitted i NotKnown) ≡ record { number = 18; place = i; second = Some 2 })
    × (numbers (NotPermitted i HeldSetting) ≡ record { number = 18; place = i; second = Some 3 })
denied_numbers i = (refl, refl, refl, refl)

-- ---- a sheet that is taken asks a question; either a least working plan is printed with its height, or none works and `cannot` is printed
pub sheet-answered : (s old : List ℕ) (r : ℕ) (new : List ℕ) (sheet : Sheet) → sheet_meaning s ≡ stated sheet → AnswersSheet s old r new
    → (rights : List ℕ) × (q : Question) × (goal : Goal) × SheetAsks sheet rights q goal
    × (((p : Plan) × Works (system_of sheet.size.settings (sheet_book sheet rights) q goal) (start_of q) p
    × ((u : Plan) → Works (system_of sheet.size.settings (sheet_book sheet rights) q goal) (start_of q) u → height p ≤ height u)
    × Prints old (reach_text (height p) p) r new)
    ⊎ (((p : Plan) → Works (system_of sheet.size.settings (sheet_book sheet rights) q goal) (start_of q) p → ⊥) × Prints old cannot_text r new))
sheet-answered s old r new sheet m a =
    let (rights, q, goal, asks, found) = subst (λ (o : Meaning). PrintsMeaning o old r new) m a in
    let T = system_of sheet.size.settings (sheet_book sheet rights) q goal in
    let k = start_of q in (
      rights,
      q,
      goal,
      asks,
      elim found [
        | inl (h, p, least, w, x) ↦ (let same : height p ≡ h = written-height T p k h w (inl least) in
            inl (
              p,
              written_works T p k w,
              (λ u v. subst (λ (j : ℕ). j ≤ height u) (sym same) (rank-least T k (inl least) u v)),
              subst (λ (j : ℕ). Prints old (reach_text j p) r new) (sym same) x,
            ))
        | inr (none, x) ↦ inr (none, x)
      ],
    )

-- ---- the refusals of a sheet, exactly, by the grammar of well-formed sheets: "First 24; then line by line 22, 23, the formula's number; 25 directly
-- after line 1." The line is printed as the place.

pub sheet-refused : (s : List ℕ) (w : Refusal) (L : ℕ) → (sheet_meaning s ≡ refused w L) ↔ RefusedSheet s w L
sheet-refused = refused_exactly

pub sheet-printed : (s old : List ℕ) (r : ℕ) (new : List ℕ) (w : Refusal) (L : ℕ) → RefusedSheet s w L → AnswersSheet s old r new
    → Prints old (refused_text (number w) L) r new
sheet-printed s old r new w L f a = subst (λ (o : Meaning). PrintsMeaning o old r new) ((refused_exactly s w L).1 f) a

-- a sheet is taken where it is well formed, not too long, and no line of it has a fault
pub sheet-taken : (s : List ℕ) (sheet : Sheet)
    → (sheet_meaning s ≡ stated sheet) ↔ ((length s ≤ 32768) × WellFormed sheet × (sheet_text sheet ≡ s) × ((K : ℕ) (x : Refusal) → LineFault sheet K x → ⊥))
sheet-taken = stated_exactly

-- number by number. 24
pub length_exactly : (s : List ℕ) → (sheet_meaning s ≡ refused SheetLength 0) ↔ (32768 < length s)
length_exactly = Number.length_exactly

-- 22, where no line before it is refused for something else
pub malformed_exactly : (s : List ℕ) (L : ℕ) → (sheet_meaning s ≡ refused (Malformed L) L)
    ↔ ((length s ≤ 32768) × MalformedAt s L × ((K : ℕ) (w : Refusal) → K < L → FaultAt s K w → ⊥))
malformed_exactly = Number.malformed_exactly

-- 25, where the first line is `size N M` with N above 5, whatever follows
pub settings_exactly : (s : List ℕ) (L : ℕ) → (sheet_meaning s ≡ refused SheetSettings L)
    ↔ ((L ≡ 1) × (length s ≤ 32768)
    × ((n : ℕ) × (m : ℕ) × (rest : List ℕ) × (5 < n) × (n ≤ 7) × (1 ≤ m) × (m ≤ 8) × (s ≡ ended (size_text n m) ++ rest)))
settings_exactly = Number.settings_exactly

-- 23, where line L is reached and names something twice
pub twice_exactly : (s : List ℕ) (L : ℕ) → (sheet_meaning s ≡ refused (Twice L) L)
    ↔ ((length s ≤ 32768) × Reaches s L (λ n before line. NamesTwice before line))
twice_exactly = Number.twice_exactly

-- a formula's number, where line L is reached, names nothing twice, and has a formula that is refused so; 5 is never given, since N is 1 to 7
pub formula_exactly : (s : List ℕ) (w : Refusal) (L : ℕ) → number w ≤ 5 → (sheet_meaning s ≡ refused w L)
    ↔ ((length s ≤ 32768) × Reaches s L (λ n before line. (NamesTwice before line → ⊥) × FormulaRefused n line w))
formula_exactly = Number.formula_exactly
