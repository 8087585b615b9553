-- The contract of `read` settles all that it gives: one desk alone holds what a sheet states, since one holds its rules and one what it asks.
use mathlib.Core.Path.{◌≡◌, sym, ◌∙◌, subst}
use Prim.Native.Nat.{ℕ}
use Rattle.std.proofs.Common.{Result, Ok, Err, ap}
use Rattle.sheet_words.specs.declared.Fault.{Fault}
use Rattle.sheet_words.proofs.Unique.{fault_one}
use Rattle.sheet_rules.proofs.Unique.{rules-one}
use Rattle.sheet_question.specs.Desk.{AskedOnDesk}
use Rattle.sheet_question.proofs.Unique.{asked-one}
use Rattle.sheet_reading.specs.Sheet.{Sheet}
use Rattle.sheet_reading.specs.Desk.{OnDesk}
use Rattle.sheet_reading.specs.Reading.{Meaning, refused, stated}
use Rattle.sheet_reading.specs.Reads.{ReadsSheet}
use Rattle.sheet_reading.specs.declared.Desk.{Desk}

pub desk_one : (sheet : Sheet) (a b : Desk) → OnDesk sheet a → OnDesk sheet b → a ≡ b
desk_one sheet a b h k =
    let r : a.rules ≡ b.rules = rules-one sheet.size sheet.rules a.rules b.rules h.rules k.rules in
    let same : b.rules.settings ≡ a.rules.settings = k.rules.settings ∙ sym h.rules.settings in
    let q : a.asked ≡ b.asked = asked-one a.rules.settings sheet.asked a.asked b.asked h.asked (subst (λ (n : ℕ). AskedOnDesk n sheet.asked b.asked) same k.asked) in
    let e : ◌≡◌ {A = Desk} (record { rules = a.rules; asked = a.asked }) (record { rules = b.rules; asked = b.asked }) = cc in
    e

pub read_one : (o : Meaning) (x y : Result Desk Fault) → ReadsSheet o x → ReadsSheet o y → x ≡ y
read_one (refused r line) (Err f) (Err g) h k = ap Err (fault_one h k)
read_one (stated v) (Ok a) (Ok b) h k = ap Ok (desk_one v a b h k)
read_one (refused r line) (Ok a) y h k = elim h [ ]
read_one (refused r line) (Err f) (Ok b) h k = elim k [ ]
read_one (stated v) (Ok a) (Err g) h k = elim k [ ]
read_one (stated v) (Err f) y h k = elim h [ ]
