-- A host takes a result apart. The upper half is 0 exactly for a success; of a refusal it holds the number, and above it the second number, and the lower
-- half is the place; and a book's n and m, a salvage's count and marks, and a plan's height and length, come back by one division each: every place and every length that is given
-- has room, but for a record's index past 2^32.
use mathlib.Core.Path.{◌≡◌, refl, ap, ◌∙◌, subst}
use mathlib.Core.List.{List}
use Prim.Native.Nat.{ℕ, ◌+◌, ◌*◌, ◌/◌, ◌%◌, ◌^◌, ◌≤◌, ◌<◌}
use native.Mathlib.Nat.{div-eq_of_lt, mod-eq_of_lt}
use native.Mathlib.Omega.{arith}
use lib.Arith.{digits_div, digits_mod}
use Rattle.std.specs.Prelude.{Result, Ok, Err}
use Rattle.refusal.specs.declared.Refusal.{Refusal}
use Rattle.book_sound.specs.declared.Size.{Size}
use Rattle.book_sound.specs.Promise.{size as size_of}
use Rattle.book_salvage.specs.declared.Salvaged.{Salvaged}
use Rattle.book_salvage.specs.Promise.{salvaged}
use Rattle.sheet_words.specs.declared.Fault.{Fault}
use Rattle.refusal.specs.Refusals.{number, place, second}
use Rattle.refusal.specs.Order.{First}
use Rattle.refusal.proofs.OrderLaws.{first-place-below, places_append}
use Rattle.book_sound.specs.Rows.{book_rows}
use Rattle.book_sound.proofs.Theorems.{book_places}
use Rattle.refusal.proofs.NumberLaws.{number-some, number_small, second-small}
use Rattle.knowledge.specs.Goal.{Goal}
use Rattle.formula.specs.Read.{ReadsFormula}
use Rattle.formula.proofs.Small as FormulaSmall
use Rattle.book.specs.Promise.{ReadsBook, WritesBook}
use Rattle.book.proofs.Theorems.{read-place-small, write_place-small}
use Rattle.book_salvage.specs.Promise.{Salvages}
use Rattle.book_salvage.proofs.Theorems.{salvage_small, salvage_place-small}
use Rattle.question.specs.declared.Question.{Question}
use Rattle.finder.specs.Finds.{Finds}
use Rattle.finder.specs.declared.answer.Answer.{Answer}
use Rattle.finder.specs.declared.answer.Answer.TheVariants.{Reach, Cannot}
use Rattle.finder_plain.specs.Finds.{FindsPlain}
use Rattle.finder_plain.specs.declared.finding.PlainAnswer.TheVariants.{Reach as PlainReach, Cannot as PlainCannot}
use Rattle.finder_plain.proofs.Unique.{plain_height-small, plain_place-small}
use Rattle.finder.specs.FindsTwo.{Rooms, FindsTwo}
use Rattle.finder.proofs.Small.{place-small, reach_most, two-place-small, two_reach_most}
use Rattle.plancheck.specs.Checks.{Checks}
use Rattle.plancheck.proofs.Small as CheckSmall
use Rattle.sheet_rules.specs.Meaning.{rules_meaning}
use Rattle.sheet_book.specs.Book.{MakesBook}
use Rattle.sheet_book.proofs.Theorems.{line-most, length_most}
use Rattle.station.specs.declared.record.Running.{Running}
use Rattle.station.specs.declared.shift.Replayed.{Replayed}
use Rattle.station.specs.declared.shift.Replayed.TheVariants.{Whole, Stopped}
use Rattle.station.specs.Shift.{RecordFault, no_record, not_allowed, disagrees, fault_at}
use Rattle.station.specs.Replay.{replay_rows, Replays}
use Rattle.exports.specs.Replay.{ShiftReplayed}
use Rattle.exports.specs.Texts.{RulesMade}
use Rattle.exports.specs.Packed.{packed, packed_at, upper, lower, number_in, second_in}
use Rattle.exports.specs.Returned.{formula_returned, read_returned, write_returned, salvage_returned, find_returned, plain_returned, check_returned, rules_returned}
use Rattle.exports.specs.Returned.{replay_returned, reached_as, reached_after}
use Rattle.exports.specs.Formula.{FormulaRead}
use Rattle.exports.specs.Book.{BookRead, BookWritten, BookSalvaged}
use Rattle.exports.specs.Find.{PlanFound, TwoFound, PlainlyFound}
use Rattle.exports.specs.Check.{PlanChecked}

-- a result that tells this refusal, at this place
pub record Tells-at (result : ℕ) (r : Refusal) (at : ℕ) : Type 0 where
  pub some : 0 < number r
  pub number_is : number_in result ≡ number r
  pub second_is : second_in result ≡ second r
  pub place_is : lower result ≡ at

-- at its own
abbrev pub Tells-refusal : ℕ → Refusal → Type 0
Tells-refusal result r = Tells-at result r (place r)

apart_at : {result : ℕ} (r : Refusal) (at : ℕ) → result ≡ packed_at r at → at < 2 ^ 32 → Tells-at result r at
unfolding packed_at
apart_at {result} r at e small =
    let low : at % 2 ^ 32 ≡ at = mod-eq_of_lt small in
    let is : result ≡ (second r * 256 + number r) * 2 ^ 32 + at = omega (arith, e, low) in
    let up : upper result ≡ second r * 256 + number r = ap upper is ∙ digits_div (second r * 256 + number r) small in
    record {
      some = number-some r;
      number_is = ap (λ (x : ℕ). x % 256) up ∙ digits_mod (second r) (number_small r);
      second_is = ap (λ (x : ℕ). x / 256 % 256) up ∙ ap (λ (x : ℕ). x % 256) (digits_div (second r) (number_small r)) ∙ mod-eq_of_lt (second-small r);
      place_is = ap lower is ∙ digits_mod (second r * 256 + number r) small;
    }

apart : {result : ℕ} (r : Refusal) → result ≡ packed r → place r < 2 ^ 32 → Tells-refusal result r
unfolding packed packed_at
apart r e small = apart_at r (place r) e small

pub formula_apart : {n : ℕ} {s old new : List ℕ} {r : ℕ} (c : FormulaRead n s old r new)
    → ((table : List ℕ) → c.answer ≡ Ok table → upper r ≡ 0) × ((w : Refusal) → c.answer ≡ Err w → Tells-refusal r w)
formula_apart {n} {s} c = (
  λ table e. ap upper (c.result_is ∙ ap formula_returned e),
  λ w e. let refuses = subst (ReadsFormula n s) e c.reads in
      apart w (c.result_is ∙ ap formula_returned e) (omega (arith, FormulaSmall.place-small {s = s} refuses)),
)

pub book_read_apart : {book old new : List ℕ} {r : ℕ} (c : BookRead book old r new)
    → ((n m : ℕ) → c.answer ≡ Ok (size_of n m) → (upper r ≡ 0) × (r / 256 ≡ n) × (r % 256 ≡ m))
    × ((w : Refusal) → c.answer ≡ Err w → Tells-refusal r w)
book_read_apart {book} {old} {new} {r} c = (
  λ n m e. let reads = subst (λ (a : Result Size Refusal). ReadsBook book old a new) e c.reads in
      let is : r ≡ n * 256 + m = c.result_is ∙ ap read_returned e in
      let small : m < 256 = omega (arith, reads.0.posts.most) in (
        ap upper is ∙ div-eq_of_lt (omega (arith, reads.0.settings.most, small)),
        ap (λ (x : ℕ). x / 256) is ∙ digits_div n small,
        ap (λ (x : ℕ). x % 256) is ∙ digits_mod n small,
      ),
  λ w e. let reads = subst (λ (a : Result Size Refusal). ReadsBook book old a new) e c.reads in
      apart w (c.result_is ∙ ap read_returned e) (omega (arith, read-place-small book old w reads.0)),
)

pub book_write_apart : {n m : ℕ} {rights old new : List ℕ} {r : ℕ} (c : BookWritten n m rights old r new)
    → (c.answer ≡ Ok tt → upper r ≡ 0) × ((w : Refusal) → c.answer ≡ Err w → Tells-refusal r w)
book_write_apart {n} {m} {rights} {old} {new} c = (
  λ e. ap upper (c.result_is ∙ ap write_returned e),
  λ w e. let writes = subst (λ (a : Result (Unit {0}) Refusal). WritesBook n m rights old a new) e c.writes in
      apart w (c.result_is ∙ ap write_returned e) (omega (arith, write_place-small n m rights old w writes.0)),
)

pub book_salvage_apart : {book old new : List ℕ} {r : ℕ} (c : BookSalvaged book old r new)
    → ((marks count : ℕ) → c.answer ≡ Ok (salvaged marks count) → (upper r ≡ 0) × (r / 256 ≡ count) × (r % 256 ≡ marks))
    × ((w : Refusal) → c.answer ≡ Err w → Tells-refusal r w)
book_salvage_apart {book} {old} {new} {r} c = (
  λ marks count e. let salvages = subst (λ (a : Result Salvaged Refusal). Salvages book old a new) e c.salvages in
      let is : r ≡ count * 256 + marks = c.result_is ∙ ap salvage_returned e in
      let most = salvage_small salvages in
      let small : marks < 256 = omega (arith, most.0) in (
        ap upper is ∙ div-eq_of_lt (omega (arith, most.1, small)),
        ap (λ (x : ℕ). x / 256) is ∙ digits_div count small,
        ap (λ (x : ℕ). x % 256) is ∙ digits_mod count small,
      ),
  λ w e. let salvages = subst (λ (a : Result Salvaged Refusal). Salvages book old a new) e c.salvages in
      apart w (c.result_is ∙ ap salvage_returned e) (omega (arith, salvage_place-small book old w salvages.0)),
)

-- a finder's answer with a height below 255 and a plan of at most 32,640 bytes, or a refusal with a place below 9
abbrev pub Found_apart : ℕ → Result Answer Refusal → Type 0
Found_apart r answer =
    ((h size : ℕ) → answer ≡ Ok (Reach h size) → (upper r ≡ 0) × (r / 2 ^ 16 ≡ h) × (r % 2 ^ 16 ≡ size))
    × (answer ≡ Ok Cannot → r ≡ 0) × ((w : Refusal) → answer ≡ Err w → Tells-refusal r w)

found_apart : {r : ℕ} {answer : Result Answer Refusal} → r ≡ find_returned answer → ((h size : ℕ) → answer ≡ Ok (Reach h size) → (h ≤ 254) × (size ≤ 32640))
    → ((w : Refusal) → answer ≡ Err w → place w < 9) → Found_apart r answer
found_apart {r} is most small = (
  λ h size e. let high = most h size e in
      let fits : size < 2 ^ 16 = omega (arith, high.1) in
      let sum : r ≡ h * 2 ^ 16 + size = is ∙ ap find_returned e ∙ ap (λ (x : ℕ). h * 2 ^ 16 + x) (mod-eq_of_lt fits) in (
        ap upper sum ∙ div-eq_of_lt (omega (arith, high.0, fits)),
        ap (λ (x : ℕ). x / 2 ^ 16) sum ∙ digits_div h fits,
        ap (λ (x : ℕ). x % 2 ^ 16) sum ∙ digits_mod h fits,
      ),
  λ e. is ∙ ap find_returned e,
  λ w e. apart w (is ∙ ap find_returned e) (omega (arith, small w e)),
)

pub find_apart : {book : List ℕ} {q : Question} {goal : Goal} {ranks plan ranks' plan' : List ℕ} {r : ℕ} (c : PlanFound book q goal ranks plan r ranks' plan')
    → Found_apart r c.answer
find_apart {book} {q} {goal} {ranks} {plan} {ranks'} {plan'} c =
    let told : (a : Result Answer Refusal) → c.answer ≡ a → Finds book q goal ranks plan a ranks' plan' =
    λ a e. subst (λ (a : Result Answer Refusal). Finds book q goal ranks plan a ranks' plan') e c.finds in
    found_apart c.result_is (λ h size e. reach_most book q goal ranks plan ranks' plan' h size (told (Ok (Reach h size)) e))
    (λ w e. place-small book q goal ranks plan ranks' plan' w (told (Err w) e))

pub find_two_apart : {book : List ℕ} {q : Question} {goal : Goal} {team2 : ℕ} {goal2 : Goal} {old new : Rooms} {r : ℕ}
    (c : TwoFound book q goal team2 goal2 old r new) → Found_apart r c.answer
find_two_apart {book} {q} {goal} {team2} {goal2} {old} {new} c =
    let told : (a : Result Answer Refusal) → c.answer ≡ a → FindsTwo book q goal team2 goal2 old a new =
    λ a e. subst (λ (a : Result Answer Refusal). FindsTwo book q goal team2 goal2 old a new) e c.finds in
    found_apart c.result_is (λ h size e. two_reach_most book q goal team2 goal2 old new h size (told (Ok (Reach h size)) e))
    (λ w e. two-place-small book q goal team2 goal2 old new w (told (Err w) e))

pub find_plain_apart : {book : List ℕ} {q : Question} {goal : Goal} {r : ℕ} (c : PlainlyFound book q goal r)
    → ((h : ℕ) → c.answer ≡ Ok (PlainReach h) → (upper r ≡ 0) × (r ≡ h + 1))
    × (c.answer ≡ Ok PlainCannot → r ≡ 0) × ((w : Refusal) → c.answer ≡ Err w → Tells-refusal r w)
find_plain_apart {book} {q} {goal} {r} c = (
  λ h e. let finds = subst (FindsPlain book q goal) e c.finds in
      let is : r ≡ h + 1 = c.result_is ∙ ap plain_returned e in
      (ap upper is ∙ div-eq_of_lt (omega (arith, plain_height-small book q goal h finds)), is),
  λ e. c.result_is ∙ ap plain_returned e,
  λ w e. let finds = subst (FindsPlain book q goal) e c.finds in
      apart w (c.result_is ∙ ap plain_returned e) (omega (arith, plain_place-small book q goal w finds)),
)

pub plan-check_apart : {book : List ℕ} {q : Question} {goal : Goal} {plan : List ℕ} {r : ℕ} (c : PlanChecked book q goal plan r)
    → (c.answer ≡ Ok tt → upper r ≡ 0) × ((w : Refusal) → c.answer ≡ Err w → Tells-refusal r w)
plan-check_apart {book} {q} {goal} {plan} c = (
  λ e. ap upper (c.result_is ∙ ap check_returned e),
  λ w e. let checks = subst (λ (a : Result (Unit {0}) Refusal). Checks book q goal plan a) e c.checks in
      apart w (c.result_is ∙ ap check_returned e) (omega (arith, CheckSmall.place-small book q goal plan w checks)),
)

pub rules_apart : {rules old new : List ℕ} {r : ℕ} (c : RulesMade rules old r new)
    → ((size : ℕ) → c.answer ≡ Ok size → (upper r ≡ 0) × (r ≡ size)) × ((fault : Fault) → c.answer ≡ Err fault → Tells-at r fault.why fault.line)
rules_apart {rules} {old} {new} {r} c = (
  λ size e. let is : r ≡ size = c.result_is ∙ ap rules_returned e in
      (div-eq_of_lt (omega (arith, is, length_most rules old size new (subst (λ (a : Result ℕ Fault). MakesBook (rules_meaning rules) old a new) e c.makes))), is),
  λ fault e. apart_at fault.why fault.line (c.result_is ∙ ap rules_returned e) (omega (arith, line-most rules old fault new (subst (λ (a : Result ℕ Fault). MakesBook (rules_meaning rules) old a new) e c.makes))),
)

-- of `pj_replay` the lower half of 27, 28 and 29 is the low 32 bits of the record's index, since a shift may have more records; the first lent number is that index
-- whole
low_apart : {result : ℕ} (r : Refusal) → result ≡ packed r → Tells-at result r (place r % 2 ^ 32)
unfolding packed packed_at
low_apart r e = apart_at r (place r % 2 ^ 32) (omega (arith, e)) (omega arith)

fault-place : (f : RecordFault) (k : ℕ) → place (fault_at f k) ≡ k
fault-place no_record k = refl
fault-place not_allowed k = refl
fault-place disagrees k = refl

rows-place : (book : List ℕ) (start : ℕ) (shift : List ℕ) (w : Refusal) → First (replay_rows book start shift) w → place w < 9
unfolding replay_rows
rows-place book start shift w f =
    first-place-below 9 (replay_rows book start shift) (places_append 9 (book_rows book) _ (book_places book) (λ _. ((λ i g. omega arith), λ _. tt))) f

pub replay_apart : {book : List ℕ} {start : ℕ} {shift old new : List ℕ} {r : ℕ} (c : ShiftReplayed book start shift old r new)
    → ((running : Running) → c.answer ≡ Ok (Whole running) → (upper r ≡ 0) × (new ≡ reached_as running))
    × ((w : Refusal) (running : Running) → c.answer ≡ Ok (Stopped w running) → Tells-at r w (running.count % 2 ^ 32) × (new ≡ reached_as running))
    × ((w : Refusal) → c.answer ≡ Err w → Tells-refusal r w × (new ≡ old))
replay_apart {book} {start} {shift} {old} {r = r} c = (
  λ running e. (ap upper (c.result_is ∙ ap replay_returned e), c.new_is ∙ ap (λ x. reached_after x old) e),
  λ w running e. let played = subst (λ (x : Result Replayed Refusal). Replays book start shift x) e c.replays in
      let stops = played.plays.1 in
      let at = ap place stops.why_is ∙ fault-place stops.fault running.count in (
        subst (λ (k : ℕ). Tells-at r w (k % 2 ^ 32)) at (low_apart w (c.result_is ∙ ap replay_returned e)),
        c.new_is ∙ ap (λ x. reached_after x old) e,
      ),
  λ w e. let refused = subst (λ (x : Result Replayed Refusal). Replays book start shift x) e c.replays in (
    apart w (c.result_is ∙ ap replay_returned e) (omega (arith, rows-place book start shift w refused)),
    c.new_is ∙ ap (λ x. reached_after x old) e,
  ),
)
