-- `fault_line` meets its contract: its six pieces one after the other.
use mathlib.Core.List.{[], ◌∷◌, ◌++◌}
use Rattle.ground.specs.Text.{bytes}
use Rattle.print_room.proofs.Writing.{wrote_then, ends-left, ends-right}
use Rattle.station_print.specs.Faults.{place_text, record_words, fault_numbered, why_text, fault_text}
use Rattle.station_print.proofs.fault.fault_line.Goals as goal

pub place-to-requires : goal.place-to-requires
unfolding fault_text
place-to-requires c =
    let a = c.args in
    let why = why_text (fault_numbered a.number) a.n a.present a.seen in
    let rest = bytes ", " ++ (record_words a.byte a.seen ++ (bytes ": " ++ why)) in
    let inner = ends-left (place_text a.shift.now a.index ++ rest) (10 ∷ []) c.requires.1 in
    ends-left (place_text a.shift.now a.index) rest inner

pub word-to-requires : goal.word-to-requires
unfolding fault_text
word-to-requires c =
    let a = c.args in
    let why = why_text (fault_numbered a.number) a.n a.present a.seen in
    let rest = bytes ", " ++ (record_words a.byte a.seen ++ (bytes ": " ++ why)) in
    let inner = ends-left (place_text a.shift.now a.index ++ rest) (10 ∷ []) c.requires.1 in
    ends-left (bytes ", ") (record_words a.byte a.seen ++ (bytes ": " ++ why)) (ends-right c.place-to.ensures inner)

pub record_words-to-requires : goal.record_words-to-requires
unfolding fault_text
record_words-to-requires c =
    let a = c.args in
    let why = why_text (fault_numbered a.number) a.n a.present a.seen in
    let rest = bytes ", " ++ (record_words a.byte a.seen ++ (bytes ": " ++ why)) in
    let inner = ends-left (place_text a.shift.now a.index ++ rest) (10 ∷ []) c.requires.1 in
    ends-left (record_words a.byte a.seen) (bytes ": " ++ why) (ends-right c.word-to.ensures (ends-right c.place-to.ensures inner))

pub word-to-requires-2 : goal.word-to-requires-2
unfolding fault_text
word-to-requires-2 c =
    let a = c.args in
    let why = why_text (fault_numbered a.number) a.n a.present a.seen in
    let rest = bytes ", " ++ (record_words a.byte a.seen ++ (bytes ": " ++ why)) in
    let inner = ends-left (place_text a.shift.now a.index ++ rest) (10 ∷ []) c.requires.1 in
    ends-left (bytes ": ") why (ends-right c.record_words-to.ensures (ends-right c.word-to.ensures (ends-right c.place-to.ensures inner)))

pub why-to-requires : goal.why-to-requires
unfolding fault_text
why-to-requires c =
    let a = c.args in
    let why = why_text (fault_numbered a.number) a.n a.present a.seen in
    let rest = bytes ", " ++ (record_words a.byte a.seen ++ (bytes ": " ++ why)) in
    let inner = ends-left (place_text a.shift.now a.index ++ rest) (10 ∷ []) c.requires.1 in
    (c.requires.0, (ends-right c.word-to-2.ensures (ends-right c.record_words-to.ensures (ends-right c.word-to.ensures (ends-right c.place-to.ensures inner)))))

pub put-requires : goal.put-requires
unfolding fault_text
put-requires c =
    ends-right (wrote_then c.place-to.ensures (wrote_then c.word-to.ensures
    (wrote_then c.record_words-to.ensures (wrote_then c.word-to-2.ensures c.why-to.ensures)))) c.requires.1

pub returns : goal.returns
unfolding fault_text
returns c =
    wrote_then (wrote_then c.place-to.ensures (wrote_then c.word-to.ensures
    (wrote_then c.record_words-to.ensures (wrote_then c.word-to-2.ensures c.why-to.ensures)))) c.put.ensures
