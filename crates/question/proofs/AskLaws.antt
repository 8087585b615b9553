-- What callers of `ask` go on from: the knowledge number at the start.
use mathlib.Core.Path.{◌≡◌, ap, ◌∙◌}
use mathlib.Core.List.{List}
use Prim.Native.Nat.{ℕ}
use Rattle.knowledge.specs.Number.{digit_in, number_of, first_at, first_digits}
use Rattle.knowledge.proofs.Number.{sum_ext}
use Rattle.knowledge.proofs.States.{first_in}
use Rattle.question.specs.Question.{start_of}
use Rattle.question.specs.declared.Question.{Question}

pub start_is : (q : Question) {ds : List ℕ} {r : ℕ} → ds ≡ first_digits q.known q.values → r ≡ number_of 7 (digit_in ds) → r ≡ start_of q
unfolding start_of
start_is q e r =
    r
    ∙ ap (λ (xs : List ℕ). number_of 7 (digit_in xs)) e
    ∙ sum_ext 7 7 (digit_in (first_digits q.known q.values)) (first_at q.known q.values) (λ i h. first_in q.known q.values i h)
