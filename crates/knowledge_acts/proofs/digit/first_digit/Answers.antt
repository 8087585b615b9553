-- `knowledge_acts::digit::first_digit` meets its contract: a known start value has the digit that a look gives.
use mathlib.Core.Path.{◌∙◌, sym}
use Rattle.knowledge_acts.specs.Seven.{first_digit}
use Rattle.knowledge_acts.proofs.Seven.{first-known}
use Rattle.knowledge_acts.proofs.digit.first_digit.Goals as goal

pub returns-then-known : goal.returns-then-known
returns-then-known c = rw c.if-known.true (c.after_look.ensures ∙ sym (first-known _))

pub returns : goal.returns
unfolding first_digit
returns c = rw c.if-known.false
