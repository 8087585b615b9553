-- The grammar of a plan's text: how each line is written. A text of at most 524,288 bytes is taken exactly where it is written so, and then for these bytes
-- (proofs/Theorems `taken`, `taken-only`); any other is 22 at its first stray line (`stray_first`).
use Rattle.std.specs.Prelude.{◌≡◌, ◌⊎◌, List, [], ◌∷◌, ◌++◌, ℕ, zero, suc, ◌<◌, length, get_or}
use Rattle.ground.specs.Text.{bytes}
use Rattle.knowledge_acts.specs.Acts.{setting_of, post_of, byte_of}
use Rattle.knowledge_acts.specs.declared.act.Act.{Act}
use Rattle.refusal.specs.declared.Refusal.{Refusal}
use Rattle.refusal.specs.declared.Refusal.TheVariants.{Malformed}
use Rattle.print_room.specs.Decimal.{AllDigits}
use Rattle.print_answer.specs.Listed.{line, act_text}

-- "H and the depths must be decimal numbers, and their values are not judged": one or more digits
abbrev pub Number : List ℕ → Type 0
Number s = AllDigits s × (0 < length s)

-- l is the line of the plan byte c: a depth, and `stop` or an act on one of the seven settings by one of the eight posts
pub data LineOf (l : List ℕ) (c : ℕ) : Type 0 where
  stops : (depth : List ℕ) → Number depth → l ≡ depth ++ bytes " " ++ bytes "stop" → c ≡ 0 → LineOf l c
  acts : (depth : List ℕ) (a : Act) → Number depth → setting_of a < 7 → post_of a < 8 → l ≡ depth ++ bytes " " ++ act_text a → c ≡ byte_of a → LineOf l c

-- "a line a plan byte"
abbrev pub LinesOf : List ℕ → List ℕ → Type 0
LinesOf s [] = s ≡ []
LinesOf s (c ∷ b) = (l : List ℕ) × (rest : List ℕ) × LineOf l c × (s ≡ line l ++ rest) × LinesOf rest b

-- "the line `reach H`, then" those
pub record PlanTextOf (s b : List ℕ) : Type 0 where
  pub height : List ℕ
  pub number : Number height
  pub rest : List ℕ
  pub text : s ≡ line (bytes "reach " ++ height) ++ rest
  pub lines : LinesOf rest b

-- ---- "any other line is 22 with the plan's line"

-- the piece with index i, among those of `split newline`, is as it must be: after the first line, the line of a plan byte, or the nothing after the last byte 10
abbrev pub FineAfter : List (List ℕ) → ℕ → Type 0
FineAfter pieces i =
    ((suc i < length pieces) × ((c : ℕ) × LineOf (get_or pieces i []) c)) ⊎ ((suc i ≡ length pieces) × (get_or pieces i [] ≡ []))

-- and the first line is `reach H`
abbrev pub Fine : List (List ℕ) → ℕ → Type 0
Fine pieces zero = (1 < length pieces) × ((height : List ℕ) × Number height × (get_or pieces 0 [] ≡ bytes "reach " ++ height))
Fine pieces (suc i) = FineAfter pieces (suc i)

-- the first piece that is not; its line is its index and one
pub record StrayAt (pieces : List (List ℕ)) (index : ℕ) : Type 0 where
  pub there : index < length pieces
  pub before : (i : ℕ) → i < index → Fine pieces i
  pub here : Fine pieces index → ⊥

-- 22 at that line
abbrev pub RefusedAt : List (List ℕ) → Refusal → Type 0
RefusedAt pieces r = (i : ℕ) × (r ≡ Malformed (suc i)) × StrayAt pieces i
