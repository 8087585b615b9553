-- The rules at the beginning of a text: what they state, and where they end; or their first refusal. A sheet goes on with a question there. "In rules
-- and question files (not in sheets) lines that begin with `#` and empty lines are passed over; line numbers count them."
use Rattle.std.specs.Prelude.{Bool, true, false, ◌&&◌, cond, List, [], ◌∷◌, ℕ, suc, ltb, length}
use Rattle.refusal.specs.declared.Refusal.{Refusal}
use Rattle.refusal.specs.declared.Refusal.TheVariants.{Malformed, SheetLength}
use Rattle.sheet_words.specs.Words.{split, newline, passed_over}
use Rattle.sheet_words.specs.Steps.{Step, fault, next}
use Rattle.sheet_rules.specs.Rules.{Rules}
use Rattle.sheet_rules.specs.Forms.{is_of_rules}
use Rattle.sheet_rules.specs.Steps.{size_step, line_step}

-- a refusal and its line; or what the rules state, the number of the line after them, and what is left of the text, in pieces between bytes 10
pub data Reading : Type 0 where
  refused : Refusal → (line : ℕ) → Reading
  up_to : Rules → (line : ℕ) → List (List ℕ) → Reading

-- the lines after the size, from number L on: up to the first that is none of the rules', or up to what follows the last byte 10; `split` gives at
-- least one piece, so the first case is never met
unfoldable pub rules_from : Bool → ℕ → Rules → List (List ℕ) → Reading
rules_from passes L rules [] = up_to rules L []
rules_from passes L rules (rest ∷ []) = up_to rules L (rest ∷ [])
rules_from passes L rules (line ∷ another ∷ more) = elim (is_of_rules passes rules.size.settings rules.size.posts line) [
  | true ↦ elim (line_step passes L rules line) [ fault r ↦ refused r L | next then ↦ rules_from passes (suc L) then (another ∷ more) ]
  | false ↦ up_to rules L (line ∷ another ∷ more)
]

-- what the line L does where the size is due, and the pieces after it
abbrev pub after_size : Bool → ℕ → Step Rules → List (List ℕ) → Reading
after_size passes L (fault r) more = refused r L
after_size passes L (next rules) more = rules_from passes (suc L) rules more

-- the lines from number L on, where the size is due; "A text that ends early gets 22 one past its last line, passed-over lines counted"
unfoldable pub size_from : Bool → ℕ → ℕ → List (List ℕ) → Reading
size_from passes most L [] = refused (Malformed L) L
size_from passes most L (rest ∷ []) = refused (Malformed L) L
size_from passes most L (line ∷ another ∷ more) =
    cond (passes && passed_over line) (size_from passes most (suc L) (another ∷ more)) (after_size passes L (size_step most L line) (another ∷ more))

-- from the first line on
unfoldable pub rules_read : Bool → ℕ → List (List ℕ) → Reading
rules_read passes most pieces = size_from passes most 1 pieces

-- of a text: "at most 65,536 bytes (else 24)"
unfoldable pub rules_of : Bool → ℕ → List ℕ → Reading
rules_of passes most text = cond (ltb 65536 (length text)) (refused SheetLength 0) (rules_read passes most (split newline text))
