-- `write` meets its contract: the bytes of the lines so far were written, and those of the rest are still to come.
use Rattle.std.proofs.Common.{List, [], ◌∷◌, ◌++◌, ℕ, arith, sym, ap, subst, ◌∙◌}
use mathlib.Core.List.{append_assoc, append-nil}
use Rattle.print_room.specs.Wrote.{Wrote}
use Rattle.print_room.proofs.Writing.{wrote_then}
use Rattle.sheet_words.specs.Words.{split, newline}
use Rattle.plancheck_text.specs.Meaning.{line_bytes}
use Rattle.plancheck_text.proofs.TextLaws.{bytes_last, bytes_turn}
use Rattle.plancheck_text.proofs.write.Goals as goal

pub loop-line-preserved : goal.loop-line-preserved
loop-line-preserved c =
    let l = c.loop-line in
    let z = l.invariant.1 in
    let rest = line_bytes (split newline c.in-Some.after.now) in (
      omega (arith, c.in-Some.ensures.lengths, l.invariant.0, c.put-to.ensures.next_place),
      (
        z.0 ++ c.line_byte.result ∷ [],
        wrote_then z.1 c.put-to.ensures,
        append_assoc z.0 (c.line_byte.result ∷ []) rest
            ∙ ap (λ (t : List ℕ). z.0 ++ t)
            (ap (λ (x : ℕ). x ∷ rest) c.line_byte.ensures ∙ sym (bytes_turn l.rest.now c.in-Some.line.now c.in-Some.after.now c.in-Some.ensures))
            ∙ z.2,
      ),
    )

pub returns : goal.returns
returns c =
    let l = c.loop-line in
    let z = l.invariant.1 in
    subst (λ (t : List ℕ). Wrote c.args.room.now 0 t l.room l.to)
    (sym (append-nil z.0) ∙ ap (λ (t : List ℕ). z.0 ++ t) (sym (bytes_last l.rest.now c.in_default.ensures)) ∙ z.2)
    z.1
