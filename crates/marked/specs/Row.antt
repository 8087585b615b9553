-- A row of the table of marked examples: what is asked and what the answer is. `RowHolds` is what a row says: that the answer is one that the public
-- function's contract allows, and that the contract allows no other. Every formula stands in a row as its text.
use Rattle.std.specs.Prelude.{◌≡◌, List, [], ◌∷◌, ◌++◌, ℕ, ◌^◌, ◌≤◌, length, get_or, drop, Result, Ok, Err}
use Prim.Native.String.{String}
use Rattle.ground.specs.Text.{bytes}
use Rattle.book_block.specs.Check.{check}
use Rattle.book_block.specs.declared.rule.Right.{Right}
use Rattle.book_block.specs.declared.sums.Sums.{Sums}
use Rattle.refusal.specs.declared.Refusal.{Refusal}
use Rattle.refusal.specs.Refusals.{number, place}
use Rattle.knowledge.specs.Goal.{Goal}
use Rattle.finder.specs.Finds.{Finds}
use Rattle.question.specs.declared.Question.{Question}
use Rattle.finder.specs.declared.answer.Answer as F
use Rattle.finder.specs.declared.answer.Answer.TheVariants.{Reach, Cannot}
use Rattle.plancheck.specs.Checks.{Checks}
use Rattle.print_answer.specs.Printed.{fitted}
use Rattle.sheet_rules.specs.Rules.{Rule}
use Rattle.sheet_reading.specs.Sheet.{Sheet}
use Rattle.sheet_reading.specs.Reading.{Meaning, refused, stated, sheet_meaning}
use Rattle.sheet.specs.Answer.{SheetAsks, sheet_book, AnswersSheet}
use Rattle.formula.specs.Read.{ReadsFormula}

-- the rule of a setting for a post, both as indexes, with its formula
abbrev pub rule : Right → (setting post : ℕ) → String → Rule
rule right i q F = record { right = right; setting = i; post = q; text = bytes F }

pub data Row : Type 0 where
  -- a formula over n settings, and byte 0 of its table
  reads : (n : ℕ) (text : String) (byte : ℕ) → Row
  -- a formula over n settings, and the number and the place of its refusal
  refuses : (n : ℕ) (text : String) (number place : ℕ) → Row
  -- the bytes of a block that its check is over, and the two numbers of `book_block::check_of`
  sums : (bytes : List ℕ) (s t : ℕ) → Row
  -- a question, the least height and the bytes of the plan written
  reaches : (asked : Sheet) (height : ℕ) (plan : List ℕ) → Row
  -- a question, a plan for it, and the number and the place of the plan check's refusal
  faults : (asked : Sheet) (plan : List ℕ) (number place : ℕ) → Row
  -- a sheet, and all that is printed for it
  prints : (sheet printed : String) → Row
  -- a sheet, the least height and the bytes of the plan written for its question, and all that is printed
  sheet_reaches : (sheet : String) (height : ℕ) (plan : List ℕ) (printed : String) → Row
  -- a sheet with a question that no plan answers, and all that is printed
  sheet_cannot : (sheet printed : String) → Row

-- `formula::read` gives this answer, and no other
pub record Only (n : ℕ) (s : List ℕ) (answer : Result (List ℕ) Refusal) : Type 0 where
  pub allowed : ReadsFormula n s answer
  pub no_other : (b : Result (List ℕ) Refusal) → ReadsFormula n s b → b ≡ answer

-- a claim about the book of a question, the question and its goal, over n settings
abbrev pub Claim : Type 1
Claim = (n : ℕ) (book : List ℕ) (q : Question) (goal : Goal) → Type 0

-- the claim holds of the question that is stated; the tables of its book and of its goal are those that `formula::read` gives for its formulas. Where a
-- sheet is refused, there is no question
abbrev pub Of : Meaning → Claim → Type 0
Of (refused why line) Claims = ⊥
Of (stated s) Claims = (rights : List ℕ) × (q : Question) × (goal : Goal) × SheetAsks s rights q goal × Claims s.size.settings (sheet_book s rights) q goal

-- whatever the rooms held: with 7^n bytes for the ranks and room for the plan, `find` answers with this height and these bytes, and not otherwise
abbrev pub Reaches : ℕ → List ℕ → Claim
Reaches h plan n book q goal =
    (ranks room : List ℕ) → 7 ^ n ≤ length ranks → length plan ≤ length room
    → ((ranks' : List ℕ) × Finds book q goal ranks room (Ok (Reach h (length plan))) ranks' (plan ++ drop (length plan) room))
    × ((answer : Result F.Answer Refusal) (ranks' room' : List ℕ) → Finds book q goal ranks room answer ranks' room'
    → (answer ≡ (Ok (Reach h (length plan)))) × (room' ≡ plan ++ drop (length plan) room))

abbrev pub NoneReaches : Claim
NoneReaches n book q goal =
    (ranks room : List ℕ) → 7 ^ n ≤ length ranks
    → ((ranks' : List ℕ) × Finds book q goal ranks room (Ok Cannot) ranks' room)
    × ((answer : Result F.Answer Refusal) (ranks' room' : List ℕ) → Finds book q goal ranks room answer ranks' room' → (answer ≡ Ok Cannot) × (room' ≡ room))

-- `check` refuses the plan with this number and place, and does not answer otherwise
abbrev pub Faults : List ℕ → ℕ → ℕ → Claim
Faults plan x p n book q goal =
    (r : Refusal) × (number r ≡ x) × (place r ≡ p) × Checks book q goal plan (Err r)
    × ((answer : Result (Unit {0}) Refusal) → Checks book q goal plan answer → answer ≡ Err r)

-- whatever the room held: `sheet::answer` gives the length of this text and writes as much of it as fits, and not otherwise
abbrev pub Printed : List ℕ → List ℕ → Type 0
Printed s t =
    (old : List ℕ)
    → AnswersSheet s old (length t) (fitted old t)
    × ((r : ℕ) (new : List ℕ) → AnswersSheet s old r new → (r ≡ length t) × (new ≡ fitted old t))

abbrev pub RowHolds : Row → Type 0
RowHolds (reads n s byte) = (t : List ℕ) × Only n (bytes s) (Ok t) × (get_or t 0 0 ≡ byte)
RowHolds (refuses n s x p) = (r : Refusal) × Only n (bytes s) (Err r) × (number r ≡ x) × (place r ≡ p)
RowHolds (sums block s t) = (r : Sums) → r ≡ check (drop 0 block) → (r.s ≡ s) × (r.t ≡ t)
RowHolds (reaches asked h plan) = Of (stated asked) (Reaches h plan)
RowHolds (faults asked plan x p) = Of (stated asked) (Faults plan x p)
RowHolds (prints s t) = Printed (bytes s) (bytes t)
RowHolds (sheet_reaches s h plan t) = Of (sheet_meaning (bytes s)) (Reaches h plan) × Printed (bytes s) (bytes t)
RowHolds (sheet_cannot s t) = Of (sheet_meaning (bytes s)) NoneReaches × Printed (bytes s) (bytes t)

-- every row of a table
infixr 20 ◌and◌
pub data All : List Row → Type 0 where
  done : All []
  ◌and◌ : {r : Row} {rs : List Row} → RowHolds r → All rs → All (r ∷ rs)
