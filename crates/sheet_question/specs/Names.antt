-- What becomes of a line that is to name things: the marks of what it names, or its refusal. For the functions of this crate alone.
use Rattle.std.specs.Prelude.{◌≡◌, Bool, List, ℕ, Result, Ok, Err}
use Rattle.refusal.specs.declared.Refusal.{Refusal}
use Rattle.sheet_words.specs.Words.{indexes}
use Rattle.sheet_words.specs.Marks.{Marked}
use Rattle.sheet_words.specs.declared.names.Marks.{Marks}
use Rattle.sheet_words.specs.Steps.{fault, names_step}
use Rattle.sheet_question.specs.LineSteps.{AskedStep}

-- line L, whether it has the form, and its names
abbrev pub NamesTaken : ℕ → Bool → ℕ → List (List ℕ) → Result Marks Refusal → Type 0
NamesTaken L form first words (Err why) = (later : AskedStep) → names_step L form (indexes first words) later ≡ fault why
NamesTaken L form first words (Ok marks) = ((later : AskedStep) → names_step L form (indexes first words) later ≡ later) × Marked first words marks
