-- `marks_of` meets its contract: the words so far are names and are marked, and the rest is still to come.
use Rattle.std.proofs.Common.{◌≡◌, ℕ, ◌<◌, ◌≤◌, ◌+◌, List, [], ◌∷◌, length, length-append, drop, get_or, refl, sym, ap, subst, ◌∙◌, arith, rules}
use borrow.Author.Tests.{tests}
use Rattle.std.proofs.lemmas.Iterator.Consumers.{YieldsList-turn, YieldsList-end}
use lib.Seq.{drop-length}
use Rattle.ground.proofs.Bools.{true→T}
use Rattle.sheet_words.specs.Words.{split, space}
use Rattle.sheet_words.specs.Marks.{are_names}
use Rattle.sheet_words.proofs.Split.{YieldsList-from_split}
use Rattle.sheet_words.proofs.NameLaws.{here, names_fail, names-on, names_end, name_one, name_least, name_most, Marks_to, marks-none, mark_is, marks-more}
use Rattle.sheet_words.proofs.NameLaws.{marks-all, too_many, few_enough, names_stray, names_of}
use Rattle.sheet_words.proofs.names.marks_of.Goals as goal
use Rattle.sheet_words.proofs.names.marks_of.Goals.{In-Some}

pub returns-then-count-gt-MARKS_MOST : goal.returns-then-count-gt-MARKS_MOST
returns-then-count-gt-MARKS_MOST c =
    let a = c.args in
    names_stray (are_names a.signed a.first a.count (split space a.words.now)) a.first
    (split space a.words.now)
    (too_many a.signed a.first a.count (split space a.words.now) c.if-count-gt-MARKS_MOST.true)

pub loop-word-init : goal.loop-word-init
loop-word-init c = (omega arith, refl, marks-none c.args.first (split space c.args.words.now))

-- the word is the next of those that `split` gives
turn : (c : In-Some) → (length c.loop-word.yielded < length (split space c.args.words.now))
    × (c.in-Some.word.now ≡ get_or (split space c.args.words.now) (length c.loop-word.yielded) c.in-Some.word.now)
turn c =
    let s = c.split-word-items.ensures in
    YieldsList-turn
    (YieldsList-from_split _ space c.args.words.now s.rest s.done s.closure (λ x b q k. search (rules, tests)) c.into_iter-word-iterator.ensures.into_iter_gives)
    c.loop-word.yielded _ c.loop-word.yielded_by c.next.result c.next.new.self c.in-Some.word c.in-Some.is c.next.ensures.steps

pub returns-then-not-is_name : goal.returns-then-not-is_name
returns-then-not-is_name c =
    let a = c.args in let l = c.loop-word in
    let t = turn (goal.at.returns-then-not-is_name c).In-Some in
    names_stray (are_names a.signed a.first a.count (split space a.words.now)) a.first (split space a.words.now)
    (few_enough a.signed a.first a.count (split space a.words.now) l.invariant.0 ∙ sym l.invariant.1
    ∙ names_fail (split space a.words.now) (length l.yielded) c.in-Some.word.now t.0 t.1 a.signed a.first a.count
    (sym c.is_name.ensures ∙ c.if-not-is_name.true))

pub bounds-bare-0 : goal.bounds-bare-0
bounds-bare-0 c =
    let a = c.args in
    omega (arith, ap length c.bare.ensures, name_one a.signed a.first a.count c.in-Some.word.now (true→T (sym c.is_name.ensures ∙ c.if-not-is_name.false)))

pub overflow_sub-bare : goal.overflow_sub-bare
overflow_sub-bare c =
    let a = c.args in
    omega (
      arith,
      ap (λ (t : List ℕ). get_or t 0 0) c.bare.ensures,
      name_least a.signed a.first a.count c.in-Some.word.now (true→T (sym c.is_name.ensures ∙ c.if-not-is_name.false)),
    )

pub mark-marks-requires : goal.mark-marks-requires
mark-marks-requires c =
    let a = c.args in let most : a.count ≤ 8 = c.loop-word.invariant.0 in
    omega (
      arith,
      ap (λ (t : List ℕ). get_or t 0 0) c.bare.ensures,
      name_most a.signed a.first a.count c.in-Some.word.now (true→T (sym c.is_name.ensures ∙ c.if-not-is_name.false)),
    )

pub loop-word-preserved : goal.loop-word-preserved
loop-word-preserved c =
    let a = c.args in let l = c.loop-word in let w = c.in-Some.word.now in
    let t = turn (goal.at.loop-word-preserved c).In-Some in
    rw (length-append l.yielded (c.in-Some.word ∷ [])) (
      l.invariant.0,
      sym (names-on (split space a.words.now) (length l.yielded) w t.0 t.1 a.signed a.first a.count (sym c.is_name.ensures ∙ c.if-not-is_name.false)) ∙ l.invariant.1,
      marks-more a.first (split space a.words.now) w (drop (length l.yielded + 1) (split space a.words.now)) l.marks c.mark-marks.result
          (subst (λ (ws : List (List ℕ)). Marks_to a.first (split space a.words.now) ws l.marks) (here (split space a.words.now) (length l.yielded) w t.0 t.1) l.invariant.2)
          (mark_is l.marks c.mark-marks.result a.first w (get_or c.bare.result.now 0 0) c.is_false.result (ap (λ (t : List ℕ). get_or t 0 0) c.bare.ensures) c.is_false.ensures c.mark-marks.ensures),
    )

pub returns : goal.returns
returns c =
    let a = c.args in let l = c.loop-word in let s = c.split-word-items.ensures in
    let all : length l.yielded ≡ length (split space a.words.now) = (YieldsList-end
    (YieldsList-from_split _ space a.words.now s.rest s.done s.closure (λ x b q k. search (rules, tests)) c.into_iter-word-iterator.ensures.into_iter_gives)
    l.yielded _ l.yielded_by c.next.result c.next.new.self c.in-None.is c.next.ensures.steps).1 in
    names_of (are_names a.signed a.first a.count (split space a.words.now)) a.first (split space a.words.now) l.marks
    (few_enough a.signed a.first a.count (split space a.words.now) l.invariant.0 ∙ sym l.invariant.1
    ∙ names_end a.signed a.first a.count (split space a.words.now) (length l.yielded) all)
    (marks-all a.first (split space a.words.now) l.marks
    (subst (λ (ws : List (List ℕ)). Marks_to a.first (split space a.words.now) ws l.marks) (rw all (drop-length (split space a.words.now))) l.invariant.2))
