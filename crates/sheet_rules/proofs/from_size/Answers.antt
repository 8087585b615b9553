-- `from_size` meets its contract: the size, and the lines after it.
use Rattle.std.proofs.Common.{ℕ, sym, ap, subst, arith}
use native.Mathlib.Numerals.{add-one}
use Rattle.sheet_words.specs.Words.{split, newline}
use Rattle.sheet_words.specs.Steps.{Step}
use Rattle.sheet_rules.specs.Rules.{Rules}
use Rattle.sheet_rules.specs.Steps.{size_step}
use Rattle.sheet_rules.specs.Reading.{rules_from, after_size}
use Rattle.sheet_rules.specs.Reads.{ReadsUpto}
use Rattle.sheet_rules.proofs.Turns.{faulted, went_on}
use Rattle.sheet_rules.proofs.ReadLaws.{refused-is}
use Rattle.sheet_rules.proofs.from_size.Goals as goal

pub after_size-requires : goal.after_size-requires
after_size-requires c =
    let a = c.args in
    let h = c.requires in
    let w = went_on (size_step a.most a.number a.line.now) c.in-Ok.ensures in
    ((w.0, w.2), h.0, omega arith, omega (arith, h.2), h.3)

pub returns-in-Err : goal.returns-in-Err
returns-in-Err c =
    let a = c.args in
    refused-is a.text.now
    (ap (λ (st : Step Rules). after_size a.passes a.number st (split newline a.behind.now))
    (faulted (size_step a.most a.number a.line.now) c.in-Err.ensures))

pub returns-in-Ok : goal.returns-in-Ok
returns-in-Ok c =
    let a = c.args in
    let s = a.text.now in
    let w = went_on (size_step a.most a.number a.line.now) c.in-Ok.ensures in
    let read = c.after_size.result in
    subst (λ (st : Step Rules). ReadsUpto s (after_size a.passes a.number st (split newline a.behind.now)) read) (sym w.1)
    (subst (λ (k : ℕ). ReadsUpto s (rules_from a.passes k w.0 (split newline a.behind.now)) read) (add-one a.number) (c.after_size.ensures w.0 w.2))
