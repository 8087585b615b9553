-- The three demands, each said of what the public functions' contracts allow. The functions have no `requires`: they take every input there is,
-- and the gate proves that each returns and meets its contract. The contracts are `ReadsFormula` (of `formula::read`), `ReadsBook` and
-- `WritesBook` (of `book::read` and `write`), `Finds` (of `finder::find`), `FindsPlain` (of `finder_plain::find`), `Checks` (of `plancheck::check`),
-- `Replays` (of `station::replay`) and `AnswersSheet` (of `sheet::answer`).
use mathlib.Core.Path.{◌≡◌, subst}
use mathlib.Core.Logic.{◌⊎◌, ◌↔◌}
use mathlib.Core.List.{List, [], ◌∷◌, ◌++◌}
use Prim.Native.Nat.{ℕ, ◌+◌, ◌*◌, ◌^◌, ◌≤◌, ◌<◌}
use lib.ListN.{length, get_or, take, drop}
use Rattle.std.specs.Prelude.{Result, Ok, Err}
use Rattle.book_sound.specs.declared.Size.{Size}
use Rattle.book_sound.specs.Promise.{size}
use Rattle.refusal.specs.declared.Refusal.{Refusal}
use Rattle.refusal.specs.declared.Refusal.TheVariants.{PlanRoom, Malformed}
use Rattle.refusal.specs.Refusals.{number}
use Rattle.refusal.specs.Order.{First}
use Rattle.formula.specs.Read.{Accepts, formula_rows, ReadsFormula}
use Rattle.formula.specs.Computed.{formula_answer, without_table}
use Rattle.formula.proofs.Computed.{read_computed}
use Rattle.formula.proofs.Unique.{read_unique}
use Rattle.book.specs.Rows.{read_rows, write_rows}
use Rattle.book.specs.Promise.{ReadsBook, WritesBook}
use Rattle.book.proofs.Theorems.{reads-one, writes_one, read_then_write, write_then_read}
use Rattle.plan.specs.Plans.{Plan, Permitted, Works, height}
use Rattle.plan.specs.Ranks.{Written as WrittenFrom}
use Rattle.plan.specs.Bytes.{encode}
use Rattle.plan.specs.Secret.{Twins}
use Rattle.knowledge.specs.Goal.{Goal, wanted, learn_count, learn_table}
use Rattle.question.specs.Question.{system_of, start_of, NoMaking}
use Rattle.question.specs.Rows.{question_rows}
use Rattle.question.specs.Asks.{ValidQuestion}
use Rattle.question.specs.declared.Question.{Question}
use Rattle.finder.specs.Finds.{RanksFilled, Finds, find_rows}
use Rattle.finder.specs.declared.answer.Answer.{Answer}
use Rattle.finder.specs.declared.answer.Answer.TheVariants.{Reach, Cannot}
use Rattle.finder.proofs.Unique.{find_unique, find_refused, find_ranks}
use Rattle.finder.proofs.Theorems.{reach_works, cannot_none, works_reach, none_cannot, cannot_secret}
use Rattle.finder_plain.specs.Finds.{FindsPlain}
use Rattle.finder_plain.specs.declared.finding.PlainAnswer.{PlainAnswer}
use Rattle.finder_plain.specs.declared.finding.PlainAnswer.TheVariants.{Reach as PlainReach, Cannot as PlainCannot}
use Rattle.finder_plain.proofs.Unique.{plain_unique}
use Rattle.finder_plain.proofs.Theorems as Plain
use Rattle.plancheck.specs.Checks.{Checks, RefusesPlan}
use Rattle.plancheck.proofs.OneAnswer.{checks-one}
use Rattle.plancheck.proofs.Theorems.{yes_exact}
use Rattle.station.specs.Replay.{replay_rows, Replays}
use Rattle.station.specs.declared.shift.Replayed.{Replayed}
use Rattle.station.proofs.OneAnswer.{replays-one}
use Rattle.print_answer.specs.Printed.{refused_text, cannot_text, reach_text, Prints}
use Rattle.sheet_reading.specs.Sheet.{Sheet}
use Rattle.sheet_reading.specs.Reading.{Meaning, sheet_meaning, refused, stated}
use Rattle.sheet_reading.specs.Place.{MalformedAt}
use Rattle.sheet_reading.proofs.Place.{malformed-numbered, malformed-refused}
use Rattle.sheet.specs.Answer.{sheet_book, PrintsMeaning, AnswersSheet, SheetAsks}
use Rattle.sheet.proofs.Theorems.{answer_unique, answer-most, reach_printed, cannot_printed}
use Rattle.sheet.proofs.Theorems as Printed
use Rattle.formula.proofs.read.Reads as read-contract
use Rattle.book.proofs.read.Reads as book-read-contract
use Rattle.book.proofs.write.Reads as book-write-contract
use Rattle.finder.proofs.find.Reads as find-contract
use Rattle.finder_plain.proofs.find.Reads as plain-contract
use Rattle.plancheck.proofs.check.Reads as check-contract
use Rattle.station.proofs.replay.Reads as replay-contract
use Rattle.sheet.proofs.answer.Reads as answer-contract

-- ---- Demand 1. "Every sheet, book, question or plan, of any length and content, gets its result or a numbered refusal in the written order. The
-- caller need check nothing first, and what each refusal leaves in lent tables is stated."

-- each contract allows one result alone, the lent rooms included
pub one_formula : (n : ℕ) (s : List ℕ) (a b : Result (List ℕ) Refusal) → ReadsFormula n s a → ReadsFormula n s b → a ≡ b
one_formula = read_unique

pub one_book_read : (book room : List ℕ) (a b : Result Size Refusal) (x y : List ℕ) → ReadsBook book room a x → ReadsBook book room b y → (a ≡ b) × (x ≡ y)
one_book_read = reads-one

pub one_book_written : (n m : ℕ) (rights room : List ℕ) (a b : Result (Unit {0}) Refusal) (x y : List ℕ) → WritesBook n m rights room a x → WritesBook n m rights room b y → (a ≡ b) × (x ≡ y)
one_book_written = writes_one

pub one_answer : (book : List ℕ) (q : Question) (goal : Goal) (ranks plan : List ℕ) (a b : Result Answer Refusal) (r s x y : List ℕ)
    → Finds book q goal ranks plan a r x → Finds book q goal ranks plan b s y → (a ≡ b) × (r ≡ s) × (x ≡ y)
one_answer = find_unique

pub one_plain_answer : (book : List ℕ) (q : Question) (goal : Goal) (a b : Result PlainAnswer Refusal) → FindsPlain book q goal a → FindsPlain book q goal b → a ≡ b
one_plain_answer = plain_unique

pub one-verdict : (book : List ℕ) (q : Question) (goal : Goal) (plan : List ℕ) (a b : Result (Unit {0}) Refusal) → Checks book q goal plan a → Checks book q goal plan b → a ≡ b
one-verdict = checks-one

pub one_replay : (book : List ℕ) (start : ℕ) (shift : List ℕ) (a b : Result Replayed Refusal) → Replays book start shift a → Replays book start shift b → a ≡ b
one_replay = replays-one

pub one-sheet-answer : (s old : List ℕ) (r r' : ℕ) (new new' : List ℕ) → AnswersSheet s old r new → AnswersSheet s old r' new' → (r ≡ r') × (new ≡ new')
one-sheet-answer = answer_unique

-- "in the written order", with number and place, and what it leaves: it is the `First` of its order's rows. A
-- book's, rights' and a question's leaves the rooms as they were; 14 is given to a valid question whose plan does not fit, and fills the ranks
pub refused_formula : (n : ℕ) (s : List ℕ) (r : Refusal) → ReadsFormula n s (Err r) → First (formula_rows n s) r
refused_formula n s r x = x

pub refused_book : (book room : List ℕ) (r : Refusal) (after : List ℕ) → ReadsBook book room (Err r) after
    → First (read_rows book room) r × (after ≡ room)
refused_book book room r after x = x

pub refused_rights : (n m : ℕ) (rights room : List ℕ) (r : Refusal) (after : List ℕ) → WritesBook n m rights room (Err r) after
    → First (write_rows n m rights room) r × (after ≡ room)
refused_rights n m rights room r after x = x

pub refused_question : (book : List ℕ) (q : Question) (goal : Goal) (ranks plan : List ℕ) (w : Refusal) (r x : List ℕ) → Finds book q goal ranks plan (Err w) r x
    → (x ≡ plan) × ((First (find_rows book q goal ranks) w × (r ≡ ranks))
    ⊎ ((w ≡ PlanRoom) × ((n : ℕ) × (m : ℕ) × ValidQuestion book q goal n m × (7 ^ n ≤ length ranks) × RanksFilled n (system_of n book q goal) ranks r
    × ((p : Plan) × WrittenFrom (system_of n book q goal) (start_of q) p × (length plan < length (encode p))))))
refused_question = find_refused

-- the second finder's: "Its refusals are those through 12"
pub refused_plain : (book : List ℕ) (q : Question) (goal : Goal) (w : Refusal) → FindsPlain book q goal (Err w) → First (question_rows book q goal) w
refused_plain book q goal w f = f

pub refused-plan : (book : List ℕ) (q : Question) (goal : Goal) (plan : List ℕ) (r : Refusal) → Checks book q goal plan (Err r)
    → RefusesPlan book q goal plan r
refused-plan book q goal plan r x = x

-- a shift's before any record is read; the act at fault, 27 to 29, is in Shifts
pub refused_shift : (book : List ℕ) (start : ℕ) (shift : List ℕ) (r : Refusal) → Replays book start shift (Err r) → First (replay_rows book start shift) r
refused_shift book start shift r x = x

-- a sheet's is printed; 22 and its line are told by the grammar alone, unless an earlier line is refused for something else; and the formula's number
-- is the one that `formula::read` answers. Exactly has every refusal of a sheet by the grammar, both ways.
pub refused-sheet : (s old : List ℕ) (r : ℕ) (new : List ℕ) (w : Refusal) (L : ℕ) → sheet_meaning s ≡ refused w L → AnswersSheet s old r new → Prints old (refused_text (number w) L) r new
refused-sheet s old r new w L m a = subst (λ (o : Meaning). PrintsMeaning o old r new) m a

pub malformed : (s : List ℕ) (w : Refusal) (L : ℕ) → sheet_meaning s ≡ refused w L → number w ≡ 22 → MalformedAt s L
malformed = malformed-numbered

pub malformed_where : (s : List ℕ) (L : ℕ) → MalformedAt s L
    → (sheet_meaning s ≡ refused (Malformed L) L) ⊎ ((w : Refusal) × (p : ℕ) × (sheet_meaning s ≡ refused w p) × (number w ≡ 22 → ⊥) × (p < L))
malformed_where = malformed-refused

pub sheet_formula : (n : ℕ) (F : List ℕ) (a : Result (List ℕ) Refusal) → ReadsFormula n F a → formula_answer n F ≡ without_table a
sheet_formula = read_computed

-- "After success, "cannot" or 14 the first 7^n bytes of the rank table hold all ranks"; what "cannot" and 14 leave in the plan room is in `cannot` and
-- `refused_question`
pub ranks-filled : (book : List ℕ) (q : Question) (goal : Goal) (ranks plan : List ℕ) {n m : ℕ} (a : Result Answer Refusal) (r x : List ℕ) → ValidQuestion book q goal n m → 7 ^ n ≤ length ranks
    → Finds book q goal ranks plan a r x → RanksFilled n (system_of n book q goal) ranks r
ranks-filled = find_ranks

-- and a room of 28,234 bytes holds every answer to a sheet
pub sheet-room : (s old : List ℕ) (r : ℕ) (new : List ℕ) → AnswersSheet s old r new → r ≤ 28234
sheet-room = answer-most

-- ---- Demand 2. ""reach" exactly when a finite permitted plan, under every outcome of its looks, ends in knowledge that settles the goal; the height
-- named is the least; the plan written is such a plan; the plan check accepts exactly such plans, up to 32,640 bytes."

-- a plan that works from what the team knows at the start
abbrev WorksFor : List ℕ → Question → Goal → ℕ → Plan → Type 0
WorksFor book q goal n p = Works (system_of n book q goal) (start_of q) p

module _ (book : List ℕ) (q : Question) (goal : Goal) (ranks plan : List ℕ) (r x : List ℕ) where
  pub reach : (h size : ℕ) → Finds book q goal ranks plan (Ok (Reach h size)) r x
      → (n : ℕ) × (m : ℕ) × ValidQuestion book q goal n m
      × ((p : Plan) × WorksFor book q goal n p × (height p ≡ h) × ((s : Plan) → WorksFor book q goal n s → h ≤ height s)
      × (size ≡ length (encode p)) × (x ≡ encode p ++ drop size plan))
  reach = reach_works book q goal ranks plan r x

  pub reach_where : {n m : ℕ} (a : Result Answer Refusal) → ValidQuestion book q goal n m → 7 ^ n ≤ length ranks → 32640 ≤ length plan
      → (p : Plan) → WorksFor book q goal n p → Finds book q goal ranks plan a r x → (h : ℕ) × (size : ℕ) × (a ≡ Ok (Reach h size))
  reach_where = works_reach book q goal ranks plan r x

  pub cannot : Finds book q goal ranks plan (Ok Cannot) r x → (n : ℕ) × (m : ℕ) × ValidQuestion book q goal n m × ((p : Plan) → WorksFor book q goal n p → ⊥) × (x ≡ plan)
  cannot = cannot_none book q goal ranks plan r x

  pub cannot_where : {n m : ℕ} (a : Result Answer Refusal) → ValidQuestion book q goal n m → 7 ^ n ≤ length ranks
      → ((p : Plan) → WorksFor book q goal n p → ⊥) → Finds book q goal ranks plan a r x → a ≡ Ok Cannot
  cannot_where = none_cannot book q goal ranks plan r x

-- the same of the second finder, which is lent no room; that the two agree is in Plain
module _ (book : List ℕ) (q : Question) (goal : Goal) where
  pub plain_reach : (h : ℕ) → FindsPlain book q goal (Ok (PlainReach h))
      → (n : ℕ) × (m : ℕ) × ValidQuestion book q goal n m
      × ((p : Plan) × WorksFor book q goal n p × (height p ≡ h) × ((s : Plan) → WorksFor book q goal n s → h ≤ height s))
  plain_reach = Plain.plain_reach book q goal

  pub plain_reach_where : {n m : ℕ} → ValidQuestion book q goal n m → (a : Result PlainAnswer Refusal) (p : Plan) → WorksFor book q goal n p → FindsPlain book q goal a
      → (h : ℕ) × (a ≡ Ok (PlainReach h))
  plain_reach_where v = Plain.works_reach book q goal v

  pub plain_cannot : FindsPlain book q goal (Ok PlainCannot) → (n : ℕ) × (m : ℕ) × ValidQuestion book q goal n m × ((p : Plan) → WorksFor book q goal n p → ⊥)
  plain_cannot = Plain.plain_cannot book q goal

  pub plain_cannot_where : {n m : ℕ} → ValidQuestion book q goal n m → (a : Result PlainAnswer Refusal) → ((p : Plan) → WorksFor book q goal n p → ⊥) → FindsPlain book q goal a
      → a ≡ Ok PlainCannot
  plain_cannot_where v = Plain.none_cannot book q goal v

pub check : (book : List ℕ) (q : Question) (goal : Goal) (plan : List ℕ) {n m : ℕ} → ValidQuestion book q goal n m → (a : Result (Unit {0}) Refusal) → Checks book q goal plan a
    → (a ≡ Ok tt) ↔ ((length plan ≤ 32640) × ((p : Plan) × WorksFor book q goal n p × (plan ≡ encode p)))
check book q goal plan v a c = yes_exact v plan a c

-- "A book read and written back is the same bytes; rights written and read back are the same rights."
-- (`get_or book j 0 < 256`: a list of numbers stands for bytes)
pub book_again : (book room after out : List ℕ) (n m : ℕ) (answer : Result (Unit {0}) Refusal) (out' : List ℕ) → ((j : ℕ) → get_or book j 0 < 256)
    → ReadsBook book room (Ok (size n m)) after → WritesBook n m (take (256 * n) after) out answer out' → 512 * (1 + n) ≤ length out
    → (answer ≡ Ok tt) × (out' ≡ book ++ drop (512 * (1 + n)) out)
book_again = read_then_write

pub rights_again : (n m : ℕ) (rights room after out : List ℕ) (answer : Result Size Refusal) (out' : List ℕ)
    → WritesBook n m rights room (Ok tt) after → ReadsBook (take (512 * (1 + n)) after) out answer out' → 256 * n ≤ length out
    → (answer ≡ Ok (size n m)) × (out' ≡ rights ++ drop (256 * n) out)
rights_again = write_then_read

-- ---- Demand 3. "For a valid question whose only goal is to learn one formula over the start settings, answered "cannot", with nobody outside the team
-- setting anything: for every finite permitted plan of the team there are two starting states, both agreeing with what the team knew, that give the
-- formula different values, and in both the plan does the same acts and sees the same readings to its end."
pub secret : (book : List ℕ) (q : Question) (goal : Goal) (ranks plan : List ℕ) (r x : List ℕ) → Finds book q goal ranks plan (Ok Cannot) r x
    → (n : ℕ) × (m : ℕ) × ValidQuestion book q goal n m
    × (NoMaking n goal → learn_count goal.learn ≡ 1 → (p : Plan) → Permitted (system_of n book q goal) (start_of q) p → Twins n (learn_table goal.learn 0) (start_of q) p)
secret = cannot_secret

-- "and demand 3 holds of its "cannot""
pub plain_secret : (book : List ℕ) (q : Question) (goal : Goal) → FindsPlain book q goal (Ok PlainCannot)
    → (n : ℕ) × (m : ℕ) × ValidQuestion book q goal n m
    × (NoMaking n goal → learn_count goal.learn ≡ 1 → (p : Plan) → Permitted (system_of n book q goal) (start_of q) p → Twins n (learn_table goal.learn 0) (start_of q) p)
plain_secret book q goal f = Plain.cannot_secret book q goal f

-- ---- Demands 2 and 3 of a sheet: it asks one question, and what is printed is the answer to that

-- a plan that works for the question that the sheet asks
abbrev WorksOn : Sheet → List ℕ → Question → Goal → Plan → Type 0
WorksOn sheet rights q goal p = Works (system_of sheet.size.settings (sheet_book sheet rights) q goal) (start_of q) p

module _ (s old : List ℕ) (r : ℕ) (new : List ℕ) {sheet : Sheet} {rights : List ℕ} {q : Question} {goal : Goal}
    (m : sheet_meaning s ≡ stated sheet) (asks : SheetAsks sheet rights q goal) (a : AnswersSheet s old r new) where
  pub sheet_reach : (p : Plan) → WorksOn sheet rights q goal p
      → (h : ℕ) × (t : Plan) × WorksOn sheet rights q goal t × (height t ≡ h)
      × ((u : Plan) → WorksOn sheet rights q goal u → h ≤ height u) × Prints old (reach_text h t) r new
  sheet_reach = reach_printed s old r new m asks a

  pub sheet_cannot : ((p : Plan) → WorksOn sheet rights q goal p → ⊥) → Prints old cannot_text r new
  sheet_cannot = cannot_printed s old r new m asks a

  pub sheet_reach_means : (h : ℕ) (p : Plan) → Prints old (reach_text h p) r new → (t : Plan) × WorksOn sheet rights q goal t
  sheet_reach_means = Printed.reach_means s old r new m asks a

  pub sheet_cannot_means : Prints old cannot_text r new → (p : Plan) → WorksOn sheet rights q goal p → ⊥
  sheet_cannot_means = Printed.cannot_means s old r new m asks a

  pub sheet_secret : Prints old cannot_text r new → NoMaking sheet.size.settings goal → (F : List ℕ) → sheet.asked.asks ≡ F ∷ []
      → (p : Plan) → Permitted (system_of sheet.size.settings (sheet_book sheet rights) q goal) (start_of q) p
      → (t : List ℕ) × Accepts sheet.size.settings F t × Twins sheet.size.settings t (start_of q) p
  sheet_secret = Printed.cannot_secret s old r new m asks a

-- ---- and these contracts are the functions' own: the `ensures` of each is, both ways, the contract named above. `a` holds what is handed over, in
-- order, x the result, and `s` what each parameter refers to on return.

pub tied_read : (κs : _) (a : _) (x : _) (s : _) → read-contract.Post κs a x s ↔ ReadsFormula a.0 a.1.0.now x
tied_read κs a x s = (λ p. p, λ p. p)

pub tied_book_read : (κs : _) (a : _) (x : _) (s : _) → book-read-contract.Post κs a x s
    ↔ ReadsBook a.0.now a.1.0.now x s.1.0.now
tied_book_read κs a x s = (λ p. p, λ p. p)

pub tied_book_write : (κs : _) (a : _) (x : _) (s : _) → book-write-contract.Post κs a x s
    ↔ WritesBook a.0 a.1.0 a.1.1.0.now a.1.1.1.0.now x s.1.1.1.0.now
tied_book_write κs a x s = (λ p. p, λ p. p)

pub tied_find : (κs : _) (a : _) (x : _) (s : _) → find-contract.Post κs a x s
    ↔ Finds a.0.now a.1.0 (wanted a.1.1.0) a.1.1.1.0.now a.1.1.1.1.0.now x s.1.1.1.0.now s.1.1.1.1.0.now
tied_find κs a x s = (λ p. p, λ p. p)

pub tied_plain : (κs : _) (a : _) (x : _) (s : _) → plain-contract.Post κs a x s
    ↔ FindsPlain a.0.now a.1.0 (wanted a.1.1.0) x
tied_plain κs a x s = (λ p. p, λ p. p)

pub tied_check : (κs : _) (a : _) (x : _) (s : _) → check-contract.Post κs a x s
    ↔ Checks a.0.now a.1.0 (wanted a.1.1.0) a.1.1.1.0.now x
tied_check κs a x s = (λ p. p, λ p. p)

pub tied_replay : (κs : _) (a : _) (x : _) (s : _) → replay-contract.Post κs a x s ↔ Replays a.0.now a.1.0 a.1.1.0.now x
tied_replay κs a x s = (λ p. p, λ p. p)

pub tied_answer : (κs : _) (a : _) (x : _) (s : _) → answer-contract.Post κs a x s ↔ AnswersSheet a.0.now a.1.0.now x s.1.0.now
tied_answer κs a x s = (λ p. p, λ p. p)
