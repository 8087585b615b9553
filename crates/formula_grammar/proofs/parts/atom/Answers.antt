-- `atom` meets its contract: each of the one-byte units, and else nothing goes on.
use mathlib.Core.Path.{sym, ap, ◌∙◌}
use native.Mathlib.Omega.{arith}
use Prim.Native.Nat.{◌<◌}
use lib.ListN.{length}
use Rattle.formula_grammar.specs.Signs.{is_letter}
use Rattle.formula_grammar.proofs.ScanLaws.{letter-low, letter-small}
use Rattle.formula_grammar.proofs.PartLaws.{inside, beyond, nought-read, one-read, letter-read}
use Rattle.formula_grammar.proofs.BrokenLaws.{no_atom}
use Rattle.formula_grammar.proofs.parts.atom.Goals as goal
use Rattle.formula_grammar.proofs.parts.atom.Goals.{then-c-eq48, else-c-eq48+then-c-eq49, else-c-eq48+else-c-eq49+then-is_letter}

pub overflow_sub-c : goal.overflow_sub-c
overflow_sub-c c = letter-low c.peek-c.result (sym c.if-is_letter.true ∙ c.is_letter.ensures)

pub returns-else-is_letter : goal.returns-else-is_letter
returns-else-is_letter c =
    let peek = c.peek-c in
    no_atom c.args.text.now c.args.at c.requires.0 c.requires.1 (λ q. c.if-c-eq48.false (peek.ensures ∙ q)) (λ q. c.if-c-eq49.false (peek.ensures ∙ q))
    (ap is_letter (sym peek.ensures) ∙ sym c.is_letter.ensures ∙ c.if-is_letter.false)

pub overflow_add-result : goal.overflow_add-result
overflow_add-result c =
    let place : c.args.at < length c.args.text.now = elim c.if-c-eq48.branch [
      | then-c-eq48 w ↦ inside c.args.text.now c.args.at 47 (sym c.peek-c.ensures ∙ w.if-c-eq48.true)
      | else-c-eq48+then-c-eq49 w ↦ inside c.args.text.now c.args.at 48 (sym c.peek-c.ensures ∙ w.if-c-eq49.true)
      | else-c-eq48+else-c-eq49+then-is_letter w ↦ beyond c.args.text.now c.args.at c.peek-c.result c.peek-c.ensures (letter-low c.peek-c.result (sym w.if-is_letter.true ∙ w.is_letter.ensures))
    ] in
    omega (arith, place)

pub returns : goal.returns
returns c = elim c.if-c-eq48.branch [
  | then-c-eq48 w ↦ rw w.truths-is (nought-read w.constant-truths.result (sym c.peek-c.ensures ∙ w.if-c-eq48.true) w.constant-truths.ensures)
  | else-c-eq48+then-c-eq49 w ↦ rw w.truths-is (one-read w.constant.result (sym c.peek-c.ensures ∙ w.if-c-eq49.true) w.constant.ensures)
  | else-c-eq48+else-c-eq49+then-is_letter w ↦ (let low = letter-low c.peek-c.result (sym w.if-is_letter.true ∙ w.is_letter.ensures) in
      rw w.truths-is (letter-read w.letter.result c.peek-c.result (sym c.peek-c.ensures) low (letter-small c.peek-c.result (sym w.if-is_letter.true ∙ w.is_letter.ensures)) w.letter.ensures))
]
