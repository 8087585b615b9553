-- Any two results that a C function's contract allows are equal, lent memory included: each is a function of what the crate behind it answers,
-- which is settled there. `pj_sheet` hands on the contract of `answer`, settled by sheet's `answer_unique`, and `pj_ask` that of `ask`, settled by sheet_ask's
-- `ask_unique`.
use mathlib.Core.Path.{◌≡◌, sym, ap, ◌∙◌}
use mathlib.Core.List.{List}
use Prim.Native.Nat.{ℕ}
use Rattle.std.specs.Prelude.{Result}
use Rattle.refusal.specs.declared.Refusal.{Refusal}
use Rattle.formula.proofs.Unique.{read_unique}
use Rattle.book.proofs.Theorems.{reads-one, writes_one}
use Rattle.book_salvage.proofs.Theorems.{salvage_one}
use Rattle.knowledge.specs.Goal.{Goal}
use Rattle.question.specs.declared.Question.{Question}
use Rattle.finder.specs.FindsTwo.{Rooms}
use Rattle.finder.proofs.Unique.{find_unique}
use Rattle.finder.proofs.TwoTheorems.{two_unique}
use Rattle.finder_plain.proofs.Unique.{plain_unique}
use Rattle.plancheck.proofs.OneAnswer.{checks-one}
use Rattle.exports.specs.Returned.{formula_returned, read_returned, write_returned, salvage_returned, find_returned, plain_returned, check_returned}
use Rattle.exports.specs.Returned.{rules_returned, replay_returned, reached_after}
use Rattle.exports.specs.Find.{PlanFound, TwoFound, PlainlyFound}
use Rattle.exports.specs.Check.{PlanChecked}
use Rattle.exports.specs.Formula.{on_return, FormulaRead}
use Rattle.sheet_rules.specs.Meaning.{rules_meaning}
use Rattle.sheet_book.proofs.Theorems.{makes_one}
use Rattle.exports.specs.Book.{BookRead, BookWritten, BookSalvaged}
use Rattle.exports.specs.Texts.{RulesMade}
use Rattle.station.proofs.OneAnswer.{replays-one}
use Rattle.station.specs.declared.shift.Replayed.{Replayed}
use Rattle.exports.specs.Replay.{ShiftReplayed}

pub formula_read_unique : {n : ℕ} {s old : List ℕ} {r q : ℕ} {new other : List ℕ} → FormulaRead n s old r new → FormulaRead n s old q other → (r ≡ q) × (new ≡ other)
formula_read_unique {n} {s} {old} a b =
    let e = read_unique n s a.answer b.answer a.reads b.reads in (
      a.result_is ∙ ap formula_returned e ∙ sym b.result_is,
      a.new_is ∙ ap (λ (x : Result (List ℕ) Refusal). on_return x old) e ∙ sym b.new_is,
    )

pub book_read_unique : {book old : List ℕ} {r q : ℕ} {new other : List ℕ} → BookRead book old r new → BookRead book old q other → (r ≡ q) × (new ≡ other)
book_read_unique {book} {old} {new = new} {other = other} a b =
    let e = reads-one book old a.answer b.answer new other a.reads b.reads in
    (a.result_is ∙ ap read_returned e.0 ∙ sym b.result_is, e.1)

pub book_write_unique : {n m : ℕ} {rights old : List ℕ} {r q : ℕ} {new other : List ℕ} → BookWritten n m rights old r new → BookWritten n m rights old q other → (r ≡ q) × (new ≡ other)
book_write_unique {n} {m} {rights} {old} {new = new} {other = other} a b =
    let e = writes_one n m rights old a.answer b.answer new other a.writes b.writes in
    (a.result_is ∙ ap write_returned e.0 ∙ sym b.result_is, e.1)

pub book_salvage_unique : {book old : List ℕ} {r q : ℕ} {new other : List ℕ} → BookSalvaged book old r new → BookSalvaged book old q other
    → (r ≡ q) × (new ≡ other)
book_salvage_unique {book} {old} {new = new} {other = other} a b =
    let e = salvage_one book old a.answer b.answer new other a.salvages b.salvages in
    (a.result_is ∙ ap salvage_returned e.0 ∙ sym b.result_is, e.1)

pub find_one : {book : List ℕ} {q : Question} {goal : Goal} {ranks plan : List ℕ} {r s : ℕ} {x y u v : List ℕ} → PlanFound book q goal ranks plan r x u
    → PlanFound book q goal ranks plan s y v → (r ≡ s) × (x ≡ y) × (u ≡ v)
find_one {book} {q} {goal} {ranks} {plan} {x = x} {y = y} {u = u} {v = v} a b =
    let e = find_unique book q goal ranks plan a.answer b.answer x y u v a.finds b.finds in
    (a.result_is ∙ ap find_returned e.0 ∙ sym b.result_is, e.1, e.2)

pub find_two-one : {book : List ℕ} {q : Question} {goal : Goal} {team2 : ℕ} {goal2 : Goal} {old : Rooms} {r s : ℕ} {x y : Rooms}
    → TwoFound book q goal team2 goal2 old r x → TwoFound book q goal team2 goal2 old s y → (r ≡ s) × (x ≡ y)
find_two-one {book} {q} {goal} {team2} {goal2} {old} {x = x} {y = y} a b =
    let e = two_unique book q goal team2 goal2 old a.answer b.answer x y a.finds b.finds in
    (a.result_is ∙ ap find_returned e.0 ∙ sym b.result_is, e.1)

pub find_plain_one : {book : List ℕ} {q : Question} {goal : Goal} {r s : ℕ} → PlainlyFound book q goal r → PlainlyFound book q goal s → r ≡ s
find_plain_one {book} {q} {goal} a b =
    a.result_is ∙ ap plain_returned (plain_unique book q goal a.answer b.answer a.finds b.finds) ∙ sym b.result_is

pub plan-check-one : {book : List ℕ} {q : Question} {goal : Goal} {plan : List ℕ} {r s : ℕ} → PlanChecked book q goal plan r → PlanChecked book q goal plan s → r ≡ s
plan-check-one {book} {q} {goal} {plan} a b =
    a.result_is ∙ ap check_returned (checks-one book q goal plan a.answer b.answer a.checks b.checks) ∙ sym b.result_is

pub rules_unique : {rules old : List ℕ} {r q : ℕ} {new other : List ℕ} → RulesMade rules old r new → RulesMade rules old q other → (r ≡ q) × (new ≡ other)
rules_unique {rules} {old} {new = new} {other = other} a b =
    let e = makes_one (rules_meaning rules) old a.answer b.answer new other a.makes b.makes in
    (a.result_is ∙ ap rules_returned e.0 ∙ sym b.result_is, e.1)

pub replay_one : {book : List ℕ} {start : ℕ} {shift old : List ℕ} {r q : ℕ} {new other : List ℕ} → ShiftReplayed book start shift old r new
    → ShiftReplayed book start shift old q other → (r ≡ q) × (new ≡ other)
replay_one {book} {start} {shift} {old} a b =
    let e = replays-one book start shift a.answer b.answer a.replays b.replays in
    (a.result_is ∙ ap replay_returned e ∙ sym b.result_is, a.new_is ∙ ap (λ (x : Result Replayed Refusal). reached_after x old) e ∙ sym b.new_is)
