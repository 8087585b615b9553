-- The table of marked examples holds, row by row.
use Rattle.marked.specs.Row.{RowHolds, All, done, ◌and◌}
use Rattle.marked.specs.Table as Table
use Rattle.marked.proofs.Decided.{decided, holds}

p1 : RowHolds Table.p1
unfolding decided
p1 = holds Table.p1 tt

p2 : RowHolds Table.p2
unfolding decided
p2 = holds Table.p2 tt

p3 : RowHolds Table.p3
unfolding decided
p3 = holds Table.p3 tt

p4 : RowHolds Table.p4
unfolding decided
p4 = holds Table.p4 tt

p5 : RowHolds Table.p5
unfolding decided
p5 = holds Table.p5 tt

p6 : RowHolds Table.p6
unfolding decided
p6 = holds Table.p6 tt

p6_no_read : RowHolds Table.p6_no_read
unfolding decided
p6_no_read = holds Table.p6_no_read tt

p7 : RowHolds Table.p7
unfolding decided
p7 = holds Table.p7 tt

p8a : RowHolds Table.p8a
unfolding decided
p8a = holds Table.p8a tt

p8c : RowHolds Table.p8c
unfolding decided
p8c = holds Table.p8c tt

p9 : RowHolds Table.p9
unfolding decided
p9 = holds Table.p9 tt

p9_printed : RowHolds Table.p9_printed
unfolding decided
p9_printed = holds Table.p9_printed tt

p10 : RowHolds Table.p10
unfolding decided
p10 = holds Table.p10 tt

p11 : RowHolds Table.p11
unfolding decided
p11 = holds Table.p11 tt

p11_printed : RowHolds Table.p11_printed
unfolding decided
p11_printed = holds Table.p11_printed tt

p12 : RowHolds Table.p12
unfolding decided
p12 = holds Table.p12 tt

p12_printed : RowHolds Table.p12_printed
unfolding decided
p12_printed = holds Table.p12_printed tt

p13_zeros : RowHolds Table.p13_zeros
unfolding decided
p13_zeros = holds Table.p13_zeros tt

p13_ones : RowHolds Table.p13_ones
unfolding decided
p13_ones = holds Table.p13_ones tt

empty_sheet : RowHolds Table.empty_sheet
unfolding decided
empty_sheet = holds Table.empty_sheet tt

six_settings : RowHolds Table.six_settings
unfolding decided
six_settings = holds Table.six_settings tt

pub marked : All Table.examples
marked =
    p1 and p2 and p3 and p4 and p5
    and p6 and p6_no_read and p7 and p8a and p8c
    and p9 and p9_printed and p10 and p11 and p11_printed and p12 and p12_printed
    and p13_zeros and p13_ones
    and empty_sheet and six_settings
    and done
