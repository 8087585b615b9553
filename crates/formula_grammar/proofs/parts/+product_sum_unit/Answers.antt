-- The cycle of the three readers meets its contracts. What is left of the text falls with each byte that is passed; at one place a sum calls a product and a
-- product a unit, so the measure is three times what is left, plus 2 for a sum and 1 for a product. Each return is a law of PartLaws or BrokenLaws.
use mathlib.Core.Path.{sym, ◌∙◌}
use native.Mathlib.Omega.{arith}
use Rattle.ground.proofs.Answers.{passed_up}
use Rattle.formula_grammar.specs.Automaton.{Parses}
use Rattle.formula_grammar.specs.Grammar as G
use Rattle.formula_grammar.proofs.PartLaws.{inside, negated-read, bracketed-read, product_one, product_more, sum_one, sum_more}
use Rattle.formula_grammar.proofs.BrokenLaws.{negated-broken, bracketed-broken, unclosed, no_unit, no_product, product_broken, sum-broken}
use Rattle.formula_grammar.proofs.parts.+product_sum_unit.Goals as goal

pub product-unit-requires : goal.product-unit-requires
product-unit-requires t c = (omega (arith, c.decreases), tt)

pub product-returns-in_err-factor : goal.product-returns-in_err-factor
product-returns-in_err-factor t c = passed_up (Parses G.product _ _) _ c.from_residual.ensures.1 (no_unit c.in_err-factor.ensures)

pub product-returns-then-peek-ne38 : goal.product-returns-then-peek-ne38
product-returns-then-peek-ne38 t c = product_one c.in_ok-factor.ensures (λ q. c.if-peek-ne38.true (c.peek.ensures ∙ q))

pub product-overflow_add-factor : goal.product-overflow_add-factor
product-overflow_add-factor t c = omega (arith, inside c.args.text.now c.in_ok-factor.factor.end 37 (sym c.peek.ensures ∙ c.if-peek-ne38.false))

pub product-product-requires : goal.product-product-requires
product-product-requires t c =
    (omega (arith, c.decreases, inside c.args.text.now c.in_ok-factor.factor.end 37 (sym c.peek.ensures ∙ c.if-peek-ne38.false), c.in_ok-factor.ensures.until), tt)

pub product-returns-in_err-rest : goal.product-returns-in_err-rest
product-returns-in_err-rest t c =
    passed_up (Parses G.product _ _) _ c.from_residual-in_err-rest.ensures.1
    (product_broken c.in_ok-factor.ensures (sym c.peek.ensures ∙ c.if-peek-ne38.false) c.in_err-rest.ensures)

pub product-returns : goal.product-returns
product-returns t c =
    product_more c.and.result c.in_ok-factor.ensures (sym c.peek.ensures ∙ c.if-peek-ne38.false) c.in_ok-rest.ensures c.and.ensures

pub sum-product-requires : goal.sum-product-requires
sum-product-requires t c = (omega (arith, c.decreases), tt)

pub sum-returns-in_err-term : goal.sum-returns-in_err-term
sum-returns-in_err-term t c = passed_up (Parses G.sum _ _) _ c.from_residual.ensures.1 (no_product c.in_err-term.ensures)

pub sum-returns-then-peek-ne124 : goal.sum-returns-then-peek-ne124
sum-returns-then-peek-ne124 t c = sum_one c.in_ok-term.ensures (λ q. c.if-peek-ne124.true (c.peek.ensures ∙ q))

pub sum-overflow_add-term : goal.sum-overflow_add-term
sum-overflow_add-term t c = omega (arith, inside c.args.text.now c.in_ok-term.term.end 123 (sym c.peek.ensures ∙ c.if-peek-ne124.false))

pub sum-sum-requires : goal.sum-sum-requires
sum-sum-requires t c =
    (omega (arith, c.decreases, inside c.args.text.now c.in_ok-term.term.end 123 (sym c.peek.ensures ∙ c.if-peek-ne124.false), c.in_ok-term.ensures.until), tt)

pub sum-returns-in_err-rest : goal.sum-returns-in_err-rest
sum-returns-in_err-rest t c =
    passed_up (Parses G.sum _ _) _ c.from_residual-in_err-rest.ensures.1
    (sum-broken c.in_ok-term.ensures (sym c.peek.ensures ∙ c.if-peek-ne124.false) c.in_err-rest.ensures)

pub sum-returns : goal.sum-returns
sum-returns t c =
    sum_more c.or.result c.in_ok-term.ensures (sym c.peek.ensures ∙ c.if-peek-ne124.false) c.in_ok-rest.ensures c.or.ensures

pub unit-overflow_add-at : goal.unit-overflow_add-at
unit-overflow_add-at t c = omega (arith, inside c.args.text.now c.args.at 125 (sym c.peek-c.ensures ∙ c.if-c-eq126.true))

pub unit-unit-requires : goal.unit-unit-requires
unit-unit-requires t c = (omega (arith, c.decreases, inside c.args.text.now c.args.at 125 (sym c.peek-c.ensures ∙ c.if-c-eq126.true)), tt)

pub unit-returns-in_err-part : goal.unit-returns-in_err-part
unit-returns-in_err-part t c =
    passed_up (Parses G.unit _ _) _ c.from_residual.ensures.1
    (negated-broken c.args.text.now c.args.at (sym c.peek-c.ensures ∙ c.if-c-eq126.true) c.in_err-part.ensures)

pub unit-returns-then-c-eq126 : goal.unit-returns-then-c-eq126
unit-returns-then-c-eq126 t c = negated-read c.negated.result (sym c.peek-c.ensures ∙ c.if-c-eq126.true) c.in_ok-part.ensures c.negated.ensures

pub unit-overflow_add-at-then-c-eq40 : goal.unit-overflow_add-at-then-c-eq40
unit-overflow_add-at-then-c-eq40 t c = omega (arith, inside c.args.text.now c.args.at 39 (sym c.peek-c.ensures ∙ c.if-c-eq40.true))

pub unit-sum-requires : goal.unit-sum-requires
unit-sum-requires t c = (omega (arith, c.decreases, inside c.args.text.now c.args.at 39 (sym c.peek-c.ensures ∙ c.if-c-eq40.true)), tt)

pub unit-returns-in_err-part-2 : goal.unit-returns-in_err-part-2
unit-returns-in_err-part-2 t c =
    passed_up (Parses G.unit _ _) _ c.from_residual-in_err-part-2.ensures.1
    (bracketed-broken c.args.text.now c.args.at (sym c.peek-c.ensures ∙ c.if-c-eq40.true) c.in_err-part-2.ensures)

pub unit-returns-then-peek-ne41 : goal.unit-returns-then-peek-ne41
unit-returns-then-peek-ne41 t c =
    unclosed c.args.text.now c.args.at (sym c.peek-c.ensures ∙ c.if-c-eq40.true) c.in_ok-part-2.ensures
    (λ q. c.if-peek-ne41.true (c.peek.ensures ∙ q))

pub unit-returns-then-c-eq40 : goal.unit-returns-then-c-eq40
unit-returns-then-c-eq40 t c =
    bracketed-read (sym c.peek-c.ensures ∙ c.if-c-eq40.true) c.in_ok-part-2.ensures (sym c.peek.ensures ∙ c.if-peek-ne41.false)

pub unit-atom-requires : goal.unit-atom-requires
unit-atom-requires t c =
    let peek = c.peek-c in
    (λ q. c.if-c-eq126.false (peek.ensures ∙ q), λ q. c.if-c-eq40.false (peek.ensures ∙ q))

pub unit-returns : goal.unit-returns
unit-returns t c = c.atom.ensures
