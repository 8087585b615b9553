-- `rules_of` meets its contract: the length; the lines that are passed over, of which each leaves the rest to be read; and the size.
use Rattle.std.proofs.Common.{◌≡◌, ◌∙◌, ℕ, ◌+◌, ◌-◌, List, [], ◌∷◌, take_all, length, drop, take, sym, ap, subst, arith}
use lib.ListN.{length-drop}
use native.Mathlib.Numerals.{add-one}
use Rattle.sheet_words.specs.Words.{split, newline}
use Rattle.sheet_words.proofs.Pieces.{PieceEnd, piece_is, part, tail}
use Rattle.sheet_rules.specs.Reading.{Reading}
use Rattle.sheet_rules.specs.Reads.{ReadsUpto}
use Rattle.sheet_rules.proofs.ReadLaws.{size-ends, size_passed, size-here, too_long, from_first, refused-is, rest_from}
use Rattle.std.proofs.lemmas.Grind.{common_steps}
use Rattle.sheet_rules.proofs.rules_of.Goals as goal
use Rattle.sheet_rules.proofs.rules_of.Goals.{After-piece_end-end, Else-text-end}

pub returns-then-text-gt-TEXT_MOST : goal.returns-then-text-gt-TEXT_MOST
returns-then-text-gt-TEXT_MOST c =
    let a = c.args in
    refused-is a.text.now (too_long a.passes a.most a.text.now c.if-text-gt-TEXT_MOST.true)

pub loop-passes-init : goal.loop-passes-init
loop-passes-init c =
    let a = c.args in
    record {
      within = omega arith;
      least = omega arith;
      counted = omega arith;
      read = sym (from_first a.passes a.most a.text.now c.if-text-gt-TEXT_MOST.false);
    }

-- the line that begins at `at`
line_at : (c : After-piece_end-end) → PieceEnd c.args.text.now c.loop-passes.at newline c.piece_end-end.result
line_at c = piece_is c.args.text.now c.loop-passes.at newline c.piece_end-end.result c.loop-passes.invariant.within c.piece_end-end.ensures

pub returns-then-text-end : goal.returns-then-text-end
returns-then-text-end c =
    let a = c.args in
    let l = c.loop-passes in
    let p = line_at (goal.at.returns-then-text-end c).After-piece_end-end in
    let s = a.text.now in
    let all : part s l.at c.piece_end-end.result ≡ drop l.at s = take_all (c.piece_end-end.result - l.at) (drop l.at s) (omega (arith, length-drop l.at s, c.if-text-end.true)) in
    refused-is s (sym l.invariant.read ∙ size-ends a.passes l.at_line (drop l.at s) a.most (p.last c.if-text-end.true ∙ ap (λ (t : List ℕ). t ∷ []) all))

pub slice_bounds-line-count : goal.slice_bounds-line-count
slice_bounds-line-count c = (line_at (goal.at.slice_bounds-line-count c).After-piece_end-end).from

pub slice_bounds-line-start : goal.slice_bounds-line-start
slice_bounds-line-start c = (line_at (goal.at.slice_bounds-line-start c).After-piece_end-end).from

-- it, and what follows its byte 10
cut_at : (c : Else-text-end) → split newline (drop c.loop-passes.at c.args.text.now)
    ≡ part c.args.text.now c.loop-passes.at c.piece_end-end.result ∷ split newline (drop (c.piece_end-end.result + 1) c.args.text.now)
cut_at c =
    let s = c.args.text.now in
    let end = c.piece_end-end.result in
    (line_at (goal.at.slice_bounds-line-count c).After-piece_end-end).more c.if-text-end.false
    ∙ ap (λ (k : ℕ). part s c.loop-passes.at end ∷ split newline (drop k s)) (sym (add-one end))

pub from_size-requires : goal.from_size-requires
from_size-requires c =
    let s = c.args.text.now in
    let i = c.loop-passes.invariant in
    let p = line_at (goal.at.from_size-requires c).After-piece_end-end in
    let end = c.piece_end-end.result in
    let left : length (take (length s - (end + 1)) (drop (end + 1) s)) ≡ length s - (end + 1) = omega (arith, ap length (tail s (end + 1)), length-drop (end + 1) s) in
    (rest_from s (end + 1) (omega (arith, c.if-text-end.false)), i.least, omega (arith, i.counted, p.from, c.if-text-end.false, left), c.if-text-gt-TEXT_MOST.false)

pub returns-then-not-passes : goal.returns-then-not-passes
returns-then-not-passes c =
    let a = c.args in
    let s = a.text.now in
    let l = c.loop-passes in
    let end = c.piece_end-end.result in
    subst (λ (o : Reading). ReadsUpto s o c.from_size.result)
    (sym (size-here a.passes l.at_line (drop l.at s) a.most (part s l.at end) (take (length s - (end + 1)) (drop (end + 1) s))
    (cut_at (goal.at.returns-then-not-passes c).Else-text-end ∙ ap (λ (t : List ℕ). part s l.at end ∷ split newline t) (sym (tail s (end + 1)))) (grind (arith, common_steps))) ∙ l.invariant.read)
    c.from_size.ensures

pub overflow_add-at_line : goal.overflow_add-at_line
overflow_add-at_line c = omega (arith, c.loop-passes.invariant.counted, c.loop-passes.invariant.within, c.if-text-gt-TEXT_MOST.false)

pub loop-passes-smaller : goal.loop-passes-smaller
loop-passes-smaller c = omega (arith, (line_at (goal.at.loop-passes-smaller c).After-piece_end-end).from, c.if-text-end.false)

pub loop-passes-preserved : goal.loop-passes-preserved
loop-passes-preserved c =
    let a = c.args in
    let s = a.text.now in
    let l = c.loop-passes in
    let end = c.piece_end-end.result in
    let p = line_at (goal.at.loop-passes-preserved c).After-piece_end-end in
    record {
      within = omega (arith, c.if-text-end.false);
      least = omega arith;
      counted = omega (arith, p.from, l.invariant.counted);
      read = size_passed a.passes l.at_line (drop l.at s) a.most (part s l.at end) (drop (end + 1) s)
          (cut_at (goal.at.loop-passes-preserved c).Else-text-end) (grind (arith, common_steps))
          ∙ l.invariant.read;
    }
