-- `answered_two` meets its contract: 13 by the table's length, or the answer.
use mathlib.Core.Path.{◌≡◌, refl, ap, ◌∙◌}
use mathlib.Core.Logic.{inl, inr}
use Prim.Native.Nat.{ℕ, ◌^◌}
use native.Mathlib.Nat.{min-eq_left}
use native.Mathlib.Omega.{arith}
use Rattle.question.proofs.SystemLaws.{few}
use Rattle.sheet_ask.proofs.two.answered_two.Goals as goal

pub returns-then-ranks-count : goal.returns-then-ranks-count
returns-then-ranks-count c =
    let size : c.numbers-count.result ≡ 7 ^ c.args.settings = c.numbers-count.ensures ∙ ap (λ (k : ℕ). 7 ^ k) (min-eq_left (few c.requires.2.1.first)) in
    inl (omega (arith, size, c.if-ranks-count.true), record { ranks_kept = refl; printed = c.refuse.ensures })

pub returns-then-ranks-count-2 : goal.returns-then-ranks-count-2
returns-then-ranks-count-2 c =
    let size : c.numbers-count.result ≡ 7 ^ c.args.settings = c.numbers-count.ensures ∙ ap (λ (k : ℕ). 7 ^ k) (min-eq_left (few c.requires.2.1.first)) in
    inr (inl (omega (arith, size, c.if-ranks-count.false), omega (arith, size, c.if-ranks-count.false, c.if-ranks-count-2.true), record { ranks_kept = refl; printed = c.refuse-then-ranks-count-2.ensures }))

pub answered_legs-requires : goal.answered_legs-requires
answered_legs-requires c =
    let size : c.numbers-count.result ≡ 7 ^ c.args.settings = c.numbers-count.ensures ∙ ap (λ (k : ℕ). 7 ^ k) (min-eq_left (few c.requires.2.1.first)) in
    record {
      learnt = c.requires.0;
      learnt2 = c.requires.1;
      posts = c.requires.2.0;
      valid = c.requires.2.1;
      counted = size;
      room = omega (arith, size, c.if-ranks-count.false, c.if-ranks-count-2.false);
    }

pub returns : goal.returns
returns c =
    let size : c.numbers-count.result ≡ 7 ^ c.args.settings = c.numbers-count.ensures ∙ ap (λ (k : ℕ). 7 ^ k) (min-eq_left (few c.requires.2.1.first)) in
    inr (inr (omega (arith, size, c.if-ranks-count.false, c.if-ranks-count-2.false), c.answered_legs.ensures.filled, c.answered_legs.ensures.prints))
