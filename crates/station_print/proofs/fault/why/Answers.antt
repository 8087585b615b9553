-- `why` meets its contract, by the number.
use mathlib.Core.Path.{sym, ap}
use mathlib.Core.List.{[], ◌∷◌, ◌++◌}
use Prim.Native.Nat.{ℕ}
use Rattle.ground.specs.Text.{bytes}
use Rattle.print_room.proofs.Writing.{wrote_then, ends-left, ends-right, wrote_as, ends_as}
use Rattle.station.specs.Shift.{RecordFault}
use Rattle.station_print.specs.Settings.{setting_words}
use Rattle.station_print.specs.Faults.{why_text}
use Rattle.station_print.proofs.FaultLaws.{numbered_27, numbered_28, numbered_29}
use Rattle.station_print.proofs.fault.why.Goals as goal

pub word-requires : goal.word-requires
word-requires c =
    let a = c.args in
    ends_as (ap (λ (f : RecordFault). why_text f a.n a.present a.seen) (numbered_27 a.number c.if-number-eq27.true)) c.requires.1

pub returns-then-number-eq27 : goal.returns-then-number-eq27
returns-then-number-eq27 c =
    let a = c.args in
    wrote_as (ap (λ (f : RecordFault). why_text f a.n a.present a.seen) (sym (numbered_27 a.number c.if-number-eq27.true))) c.word.ensures

pub word-to-requires : goal.word-to-requires
word-to-requires c =
    let a = c.args in
    let e = ap (λ (f : RecordFault). why_text f a.n a.present a.seen) (numbered_28 a.number c.if-number-eq28.true) in
    ends-left (bytes "not permitted where ") _ (ends_as e c.requires.1)

pub words-requires : goal.words-requires
words-requires c =
    let a = c.args in
    let e = ap (λ (f : RecordFault). why_text f a.n a.present a.seen) (numbered_28 a.number c.if-number-eq28.true) in
    (c.requires.0, ends-right c.word-to.ensures (ends_as e c.requires.1))

pub returns-then-number-eq28 : goal.returns-then-number-eq28
returns-then-number-eq28 c =
    let a = c.args in
    let e = ap (λ (f : RecordFault). why_text f a.n a.present a.seen) (numbered_28 a.number c.if-number-eq28.true) in
    wrote_as (sym e) (wrote_then c.word-to.ensures c.words.ensures)

pub word-to-requires-2 : goal.word-to-requires-2
word-to-requires-2 c =
    let a = c.args in
    let e = ap (λ (f : RecordFault). why_text f a.n a.present a.seen) (numbered_29 a.number c.if-number-eq27.false c.if-number-eq28.false) in
    ends-left (bytes "shows ") _ (ends_as e c.requires.1)

pub put-to-requires : goal.put-to-requires
put-to-requires c =
    let a = c.args in
    let e = ap (λ (f : RecordFault). why_text f a.n a.present a.seen) (numbered_29 a.number c.if-number-eq27.false c.if-number-eq28.false) in
    let rest = bytes " where " ++ setting_words a.n a.present in
    ends-left (_ ∷ []) rest (ends_as (ap (λ (d : ℕ). d ∷ rest) (sym c.value_digit.ensures)) (ends-right c.word-to-2.ensures (ends_as e c.requires.1)))

pub word-to-requires-3 : goal.word-to-requires-3
word-to-requires-3 c =
    let a = c.args in
    let e = ap (λ (f : RecordFault). why_text f a.n a.present a.seen) (numbered_29 a.number c.if-number-eq27.false c.if-number-eq28.false) in
    let rest = bytes " where " ++ setting_words a.n a.present in
    let shown = wrote_as (ap (λ (d : ℕ). d ∷ []) c.value_digit.ensures) c.put-to.ensures in
    ends-left (bytes " where ") (setting_words a.n a.present) (ends-right shown (ends-right c.word-to-2.ensures (ends_as e c.requires.1)))

pub words-requires-2 : goal.words-requires-2
words-requires-2 c =
    let a = c.args in
    let e = ap (λ (f : RecordFault). why_text f a.n a.present a.seen) (numbered_29 a.number c.if-number-eq27.false c.if-number-eq28.false) in
    let shown = wrote_as (ap (λ (d : ℕ). d ∷ []) c.value_digit.ensures) c.put-to.ensures in
    (c.requires.0, ends-right c.word-to-3.ensures (ends-right shown (ends-right c.word-to-2.ensures (ends_as e c.requires.1))))

pub returns : goal.returns
returns c =
    let a = c.args in
    let e = ap (λ (f : RecordFault). why_text f a.n a.present a.seen) (numbered_29 a.number c.if-number-eq27.false c.if-number-eq28.false) in
    let shown = wrote_as (ap (λ (d : ℕ). d ∷ []) c.value_digit.ensures) c.put-to.ensures in
    wrote_as (sym e) (wrote_then c.word-to-2.ensures (wrote_then shown (wrote_then c.word-to-3.ensures c.words-2.ensures)))
