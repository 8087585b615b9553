-- Paper 01, "Marked examples and near misses", as one table, and two refusals of the sheet program; the theorem is `marked` of proofs/Marked. Each row
-- has a name, and is decided by itself.
use Rattle.std.specs.Prelude.{List, [], ◌∷◌, false, replicate}
use Prim.Native.String.{String}
use Rattle.ground.specs.Text.{bytes}
use Rattle.book_block.specs.declared.rule.Right.TheVariants.{Look, Set}
use Rattle.sheet_rules.specs.Rules.{size_of}
use Rattle.sheet_question.specs.Asked.{left_out}
use Rattle.sheet_reading.specs.Sheet.{Sheet}
use Rattle.marked.specs.Row.{Row, rule, reads, refuses, sums, reaches, faults, prints, sheet_reaches, sheet_cannot}

-- ---- P1 to P5, formulas

-- "P1 `a|b&~c`, n = 3, byte 0 is 174"
abbrev pub p1 : Row
p1 = reads 3 "a|b&~c" 174

-- "P2 `~a&b`, n = 2, byte 0 is 4"
abbrev pub p2 : Row
p2 = reads 2 "~a&b" 4

-- "P3 `a&`, n = 1: 4 at 2"
abbrev pub p3 : Row
p3 = refuses 1 "a&" 4 2

-- "P4 `a)`, n = 1: 4 at 1"
abbrev pub p4 : Row
p4 = refuses 1 "a)" 4 1

-- "P5 `c`, n = 2: 3 at 0"
abbrev pub p5 : Row
p5 = refuses 2 "c" 3 0

-- ---- P6 to P8, sheets

-- "Input"
abbrev pub p6_sheet : String
p6_sheet = "size 3 2\nwrite a 2 ~c\nwrite b 1 a\nread c 2 1\nwrite c 2 c\nteam 1 2\nknown\nmake b\n"

-- "Output, whole"
abbrev pub p6_output : String
p6_output = "reach 4\n0 look c 1\n1 set a 2 1\n2 set b 1 1\n3 stop\n1 set c 2 0\n2 set a 2 1\n3 set b 1 1\n4 stop\n"

-- "P6 the sheet above: bytes 130, 58, 65, 0, 18, 58, 65, 0"; by R-2 "post 1 may look too, so its first byte becomes 129, its first act line `0 look c 1`,
-- and the rest stays"
abbrev pub p6 : Row
p6 = sheet_reaches p6_sheet 4 (129 ∷ 58 ∷ 65 ∷ 0 ∷ 18 ∷ 58 ∷ 65 ∷ 0 ∷ []) p6_output

-- R-2: "P6 without its `read` line now prints just that"
abbrev pub p6_no_read_sheet : String
p6_no_read_sheet = "size 3 2\nwrite a 2 ~c\nwrite b 1 a\nwrite c 2 c\nteam 1 2\nknown\nmake b\n"

abbrev pub p6_no_read : Row
p6_no_read = sheet_reaches p6_no_read_sheet 4 (129 ∷ 58 ∷ 65 ∷ 0 ∷ 18 ∷ 58 ∷ 65 ∷ 0 ∷ []) p6_output

-- "P7 the same with team 1: cannot"; R-2: "P7 stays cannot"
abbrev pub p7_sheet : String
p7_sheet = "size 3 2\nwrite a 2 ~c\nwrite b 1 a\nread c 2 1\nwrite c 2 c\nteam 1\nknown\nmake b\n"

abbrev pub p7 : Row
p7 = sheet_cannot p7_sheet "cannot\n"

-- "P8 P6 with `ask a`": R-2: "P8 with `ask a` becomes reach 5"
abbrev pub p8a_sheet : String
p8a_sheet = "size 3 2\nwrite a 2 ~c\nwrite b 1 a\nread c 2 1\nwrite c 2 c\nteam 1 2\nknown\nmake b\nask a\n"

abbrev pub p8a_output : String
p8a_output =
    "reach 5\n0 look a 1\n1 look c 1\n2 set a 2 1\n3 set b 1 1\n4 stop\n2 set c 2 0\n3 set a 2 1\n4 set b 1 1\n5 stop\n1 set b 1 1\n2 stop\n"

abbrev pub p8a : Row
p8a = sheet_reaches p8a_sheet 5 (113 ∷ 129 ∷ 58 ∷ 65 ∷ 0 ∷ 18 ∷ 58 ∷ 65 ∷ 0 ∷ 65 ∷ 0 ∷ []) p8a_output

-- "with `ask c` in its place: reach 4"
abbrev pub p8c_sheet : String
p8c_sheet = "size 3 2\nwrite a 2 ~c\nwrite b 1 a\nread c 2 1\nwrite c 2 c\nteam 1 2\nknown\nmake b\nask c\n"

abbrev pub p8c : Row
p8c = sheet_reaches p8c_sheet 4 (129 ∷ 58 ∷ 65 ∷ 0 ∷ 18 ∷ 58 ∷ 65 ∷ 0 ∷ []) p6_output

-- ---- P9 to P12, by their numbers and formulas; and as the sheets sheets/p9, p11 and p12. There is one post, and it is the team

-- "n = 1, look and set rules `1`, make `~a`, learn `a`"
abbrev pub p9_asked : Sheet
p9_asked = record {
  size = size_of 1 1;
  rules = rule Look 0 0 "1" ∷ rule Set 0 0 "1" ∷ [];
  asked = record { team = 0 ∷ []; known = []; held = left_out; make = bytes "~a"; asks = bytes "a" ∷ [] };
}

-- "P9 ..: reach 2, bytes 113, 0, 1, 0"
abbrev pub p9 : Row
p9 = reaches p9_asked 2 (113 ∷ 0 ∷ 1 ∷ 0 ∷ [])

abbrev pub p9_printed : Row
p9_printed = prints "size 1 1\nread a 1 1\nwrite a 1 1\nteam 1\nknown\nmake ~a\nask a\n" "reach 2\n0 look a 1\n1 stop\n1 set a 1 0\n2 stop\n"

-- "P10 for P9 the plan 1, 0: 19 at 1"
abbrev pub p10 : Row
p10 = faults p9_asked (1 ∷ 0 ∷ []) 19 1

-- "n = 2, set rule of a for post 1 `b|~b`, make `a`"
abbrev pub p11_asked : Sheet
p11_asked = record {
  size = size_of 2 1;
  rules = rule Set 0 0 "b|~b" ∷ [];
  asked = record { team = 0 ∷ []; known = []; held = left_out; make = bytes "a"; asks = [] };
}

-- "P11 ..: reach 1, bytes 57, 0"
abbrev pub p11 : Row
p11 = reaches p11_asked 1 (57 ∷ 0 ∷ [])

abbrev pub p11_printed : Row
p11_printed = prints "size 2 1\nwrite a 1 b|~b\nteam 1\nknown\nmake a\n" "reach 1\n0 set a 1 1\n1 stop\n"

-- "n = 2, known `~a`, learn `a&b`"; "(No making: the make formula is `1`.)"
abbrev pub p12_asked : Sheet
p12_asked = record {
  size = size_of 2 1;
  rules = [];
  asked = record { team = 0 ∷ []; known = record { setting = 0; value = false } ∷ []; held = left_out; make = bytes "1"; asks = bytes "a&b" ∷ [] };
}

-- "P12 ..: reach 0, byte 0"
abbrev pub p12 : Row
p12 = reaches p12_asked 0 (0 ∷ [])

abbrev pub p12_printed : Row
p12_printed = prints "size 2 1\nteam 1\nknown ~a\nmake 1\nask a&b\n" "reach 0\n0 stop\n"

-- ---- P13, the check of a block

-- "P13 check of 508 zero bytes: 1 and 508"
abbrev pub p13_zeros : Row
p13_zeros = sums (replicate 508 0) 1 508

-- "of 508 bytes 255: 64005 and 3830"
abbrev pub p13_ones : Row
p13_ones = sums (replicate 508 255) 64005 3830

-- ---- sheets that are refused

-- "A sheet that ends early gets 22 one past its last line"
abbrev pub empty_sheet : Row
empty_sheet = prints "" "refused 22 1\n"

-- "25 directly after line 1"
abbrev pub six_settings : Row
six_settings = prints "size 6 2\n" "refused 25 1\n"

abbrev pub examples : List Row
examples =
    p1 ∷ p2 ∷ p3 ∷ p4 ∷ p5
    ∷ p6 ∷ p6_no_read ∷ p7 ∷ p8a ∷ p8c
    ∷ p9 ∷ p9_printed ∷ p10 ∷ p11 ∷ p11_printed ∷ p12 ∷ p12_printed
    ∷ p13_zeros ∷ p13_ones
    ∷ empty_sheet ∷ six_settings
    ∷ []
