-- `after_size` meets its contract: what is left is what was to be read from the start.
use Rattle.std.proofs.Common.{◌≡◌, ◌∙◌, ◌+◌, ◌-◌, length, sym, arith}
use Rattle.ground.proofs.Bools.{true→T}
use Rattle.sheet_rules.specs.Steps.{line_step}
use Rattle.sheet_rules.proofs.Turns.{faulted, went_on}
use Rattle.sheet_rules.proofs.RuleTurns.{of_rules}
use Rattle.sheet_rules.proofs.ReadLaws.{rest-ends, rest-stops, rest_goes_on, rest-next, refused-is, upto_is, rest_after, up_left}
use Rattle.sheet_rules.proofs.after_size.Goals.{in-Some+then-not-is_of_rules, in_default}
use Rattle.sheet_rules.proofs.after_size.Goals as goal

pub rules_line-requires : goal.rules_line-requires
rules_line-requires c =
    let h = c.requires.0 in
    let z = c.loop-line.invariant.read h.0 h.1 in
    ((z.0, z.1), true→T (sym c.is_of_rules.ensures ∙ c.if-not-is_of_rules.false))

pub returns-in-Err : goal.returns-in-Err
returns-in-Err c =
    let a = c.args in
    let l = c.loop-line in
    let line = c.in-Some.line.now in
    λ rules h.
    let z = l.invariant.read rules h in
    refused-is a.text.now
    (sym z.2 ∙ rest_goes_on a.passes l.number l.rest.now z.0 line c.in-Some.after.now c.in-Some.ensures.pieces
    (of_rules a.passes z.0 l.desk z.1 line l.number (sym c.is_of_rules.ensures ∙ c.if-not-is_of_rules.false))
    (faulted (line_step a.passes l.number z.0 line) (c.in-Err.ensures z.0 z.1)))

pub loop-line-preserved : goal.loop-line-preserved
loop-line-preserved c =
    let a = c.args in
    let l = c.loop-line in
    let line = c.in-Some.line.now in
    let cut : length l.rest.now ≡ length line + 1 + length c.in-Some.after.now = c.in-Some.ensures.lengths in
    record {
      left = rest_after l.invariant.left c.in-Some.ensures;
      least = omega arith;
      counted = omega (arith, l.invariant.counted);
      read = λ rules h.
          let z = l.invariant.read rules h in
          let w = went_on (line_step a.passes l.number z.0 line) (c.in-Ok.ensures z.0 z.1) in
          let yes = of_rules a.passes z.0 l.desk z.1 line l.number (sym c.is_of_rules.ensures ∙ c.if-not-is_of_rules.false) in
          (w.0, w.2, rest-next a.passes l.number l.rest.now z.0 line c.in-Some.after.now c.in-Some.ensures.pieces yes w.1 ∙ z.2);
    }

pub returns : goal.returns
returns c =
    let a = c.args in
    let s = a.text.now in
    let l = c.loop-line in
    λ rules h.
    let z = l.invariant.read rules h in
    upto_is s (record { desk = l.desk; at = length s - length l.rest.now; lines = l.number - 1 }) z.0 l.number
    (sym z.2
    ∙ elim c.match-first_line.branch [
      | in-Some+then-not-is_of_rules w ↦ rest-stops a.passes l.number l.rest.now z.0 w.in-Some.line.now w.in-Some.after.now w.in-Some.ensures.pieces
          (of_rules a.passes z.0 l.desk z.1 w.in-Some.line.now l.number (sym w.is_of_rules.ensures ∙ w.if-not-is_of_rules.true))
      | in_default w ↦ rest-ends a.passes l.number l.rest.now z.0 w.in_default.ensures
    ]
    ∙ up_left l.invariant.left)
    (omega arith) (omega (arith, l.invariant.least)) z.1
