-- Each of the three answers has its outcome: they differ in their first bytes.
use mathlib.Core.Path.{◌≡◌, refl}
use mathlib.Core.Bool.{true, false}
use mathlib.Core.List.{List}
use Prim.Native.Nat.{ℕ}
use Rattle.ground.specs.Text.{bytes}
use Rattle.sheet_words.specs.Words.{begins}
use Rattle.plan.specs.Plans.{Plan}
use Rattle.print_answer.specs.Printed.{refused_text, cannot_text, reach_text}
use Rattle.program_outcome.specs.declared.Outcome.TheVariants.{Done, No, Refused}
use Rattle.program_outcome.specs.Outcomes.{answer_outcome}

pub reach_done : (height : ℕ) (p : Plan) → answer_outcome (reach_text height p) ≡ Done
unfolding answer_outcome begins
reach_done height p = refl

pub cannot_no : answer_outcome cannot_text ≡ No
unfolding answer_outcome begins
cannot_no = refl

pub refused-refused : (number place : ℕ) → answer_outcome (refused_text number place) ≡ Refused
unfolding answer_outcome begins
refused-refused number place = refl

-- a text by its first word, as the code tells them apart
pub by_reach : (text : List ℕ) → begins (bytes "reach ") text ≡ true → Done ≡ answer_outcome text
unfolding answer_outcome
by_reach text h = rw h refl

pub by_cannot : (text : List ℕ) → begins (bytes "reach ") text ≡ false → begins (bytes "cannot") text ≡ true → No ≡ answer_outcome text
unfolding answer_outcome
by_cannot text h k = rw (h, k) refl

pub by_neither : (text : List ℕ) → begins (bytes "reach ") text ≡ false → begins (bytes "cannot") text ≡ false → Refused ≡ answer_outcome text
unfolding answer_outcome
by_neither text h k = rw (h, k) refl
