-- `names_in` meets its contract, test by test.
use Rattle.std.proofs.Common.{◌≡◌, ◌∙◌, ◌<◌, sym, true, length, arith}
use mathlib.Core.Logic.{inl, inr}
use Rattle.sheet_words.specs.Words.{begins}
use Rattle.sheet_question.proofs.NameTurns.{inside, names-other, names_alone, names_unaccompanied, names_spaceless, names-some}
use Rattle.sheet_question.proofs.names.names_in.Goals.{Else-not-begins}
use Rattle.sheet_question.proofs.names.names_in.Goals as goal

form : (c : Else-not-begins) → begins c.args.word.now c.args.line.now ≡ true
form c = sym c.begins.ensures ∙ c.if-not-begins.false

pub returns-then-not-begins : goal.returns-then-not-begins
returns-then-not-begins c =
    let a = c.args in
    names-other a.word.now a.alone a.signed a.first a.count a.line.now (sym c.begins.ensures ∙ c.if-not-begins.true)

pub returns-then-alone : goal.returns-then-alone
returns-then-alone c =
    let a = c.args in
    names_alone a.word.now a.alone a.signed a.first a.count a.line.now (form (goal.at.returns-then-alone c).Else-not-begins) c.if-line-at.true c.if-alone.true

pub returns-then-peek-ne32 : goal.returns-then-peek-ne32
returns-then-peek-ne32 c =
    let a = c.args in
    let w = a.word.now in
    let line = a.line.now in
    let e = form (goal.at.returns-then-peek-ne32 c).Else-not-begins in
    elim c.else-line-at.either [
      | inl h ↦ names_unaccompanied w a.alone a.signed a.first a.count line e h.0 h.1
      | inr l ↦ names_spaceless w a.alone a.signed a.first a.count line e l (λ s. c.if-peek-ne32.true (c.peek.ensures ∙ s))
    ]

pub returns : goal.returns
returns c =
    let a = c.args in
    let w = a.word.now in
    let line = a.line.now in
    let space = sym c.peek.ensures ∙ c.if-peek-ne32.false in
    let there : length w < length line = inside line (length w) space in
    names-some w a.alone a.signed a.first a.count line (form (goal.at.returns c).Else-not-begins) (λ l. omega arith) space c.requires
    c.marks_of.result c.marks_of.ensures
