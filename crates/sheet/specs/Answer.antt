-- What is printed for a sheet: "It prints `refused NUMBER PLACE` (for a formula, the line), or `cannot`, or `reach H` and a line per plan byte".
-- A sheet that is taken asks the question that a stored book would ask: the same book, the same system of plans.
use Rattle.std.specs.Prelude.{◌≡◌, ◌⊎◌, List, ℕ, ◌*◌, ◌≤◌, ◌<◌, length, replicate}
use Rattle.ground.specs.Digits.{bit}
use Rattle.ground.specs.Search.{Least}
use Rattle.refusal.specs.Refusals.{number}
use Rattle.formula.specs.Read.{Accepts}
use Rattle.book_block.specs.Rule.{table}
use Rattle.book_sound.specs.Sound.{tables_of}
use Rattle.book.specs.Written.{book_of}
use Rattle.book_block.specs.declared.rule.Right.{Right}
use Rattle.knowledge.specs.Goal.{Goal}
use Rattle.plan.specs.Plans.{System, Plan}
use Rattle.plan.specs.Ranks.{Reach, Cannot, Written}
use Rattle.print_answer.specs.Printed.{refused_text, cannot_text, reach_text, Prints}
use Rattle.question.specs.Question.{system_of, start_of}
use Rattle.question.specs.declared.Question.{Question}
use Rattle.sheet_words.specs.Words.{member}
use Rattle.sheet_rules.specs.Rules.{rule_text}
use Rattle.sheet_question.specs.Asked.{known_settings, known_true, held_settings}
use Rattle.sheet_question.specs.Desk.{TablesOf}
use Rattle.sheet_reading.specs.Sheet.{Sheet}
use Rattle.sheet_reading.specs.Reading.{Meaning, refused, stated, sheet_meaning}

-- the question that a sheet asks: "Every rule and goal is worked on as a table", and a mask has a bit for each post or setting that is named
pub record SheetAsks (sheet : Sheet) (rights : List ℕ) (q : Question) (goal : Goal) : Type 0 where
  pub size : length rights ≡ 256 * sheet.size.settings
  pub rules : (right : Right) (i p : ℕ) → i < sheet.size.settings → p < sheet.size.posts
      → Accepts sheet.size.settings (rule_text sheet.rules right i p) (table (tables_of rights i) p right)
  pub nobody : (right : Right) (i p : ℕ) → i < sheet.size.settings → sheet.size.posts ≤ p → p < 8
      → table (tables_of rights i) p right ≡ replicate 16 0
  pub made : Accepts sheet.size.settings sheet.asked.make goal.make
  pub learnt : TablesOf sheet.size.settings sheet.asked.asks goal.learn
  pub posts : (p : ℕ) → bit q.team p ≡ member p sheet.asked.team
  pub settings_known : (i : ℕ) → bit q.known i ≡ member i (known_settings sheet.asked.known)
  pub settings_true : (i : ℕ) → bit q.values i ≡ member i (known_true sheet.asked.known)
  pub settings_held : (i : ℕ) → bit q.held i ≡ member i (held_settings sheet.asked.held)

-- the book of a sheet's size with these rights
abbrev pub sheet_book : Sheet → List ℕ → List ℕ
sheet_book sheet rights = book_of sheet.size.settings sheet.size.posts rights

-- the answer to it, with the room for what is printed before and after, and the length of all of it: "reach" with the least height and the plan
-- written, or "cannot"
abbrev pub PrintsFound : System → ℕ → List ℕ → ℕ → List ℕ → Type 0
PrintsFound S start old r new =
    ((h : ℕ) × (p : Plan) × Least (Reach S start) h × Written S start p × Prints old (reach_text h p) r new)
    ⊎ (Cannot S start × Prints old cannot_text r new)

-- what is printed, by what the sheet means
abbrev pub PrintsMeaning : Meaning → List ℕ → ℕ → List ℕ → Type 0
PrintsMeaning (refused why line) old r new = Prints old (refused_text (number why) line) r new
PrintsMeaning (stated sheet) old r new =
    (rights : List ℕ) × (q : Question) × (goal : Goal) × SheetAsks sheet rights q goal
    × PrintsFound (system_of sheet.size.settings (sheet_book sheet rights) q goal) (start_of q) old r new

-- what `answer` prints for the sheet s
abbrev pub AnswersSheet : List ℕ → List ℕ → ℕ → List ℕ → Type 0
AnswersSheet s old r new = PrintsMeaning (sheet_meaning s) old r new
