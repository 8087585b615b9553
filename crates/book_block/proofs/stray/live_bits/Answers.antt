-- `book_block::stray::live_bits` meets its contract: each way out is one case of `live`.
use Rattle.std.proofs.Common.{◌≡◌, ◌*◌, ◌%◌, ◌^◌, sym, arith}
use Rattle.book_block.proofs.StrayLaws.{live-none, live-some, live_full, one_shifted}
use Rattle.book_block.proofs.stray.live_bits.Goals as goal

pub returns-then-m-j-clause-value : goal.returns-then-m-j-clause-value
returns-then-m-j-clause-value c = sym (live-none _ _ _ c.if-m-j.true)

pub returns-then-n-ge-SETTINGS_MOST-clause-value : goal.returns-then-n-ge-SETTINGS_MOST-clause-value
returns-then-n-ge-SETTINGS_MOST-clause-value c = sym (live_full _ _ _ c.if-m-j.false c.if-n-ge-SETTINGS_MOST.true)

pub returns-clause-value : goal.returns-clause-value
returns-clause-value c =
    let shifted : 1 * 2 ^ c.args.n % 2 ^ 64 ≡ 2 ^ c.args.n =
    one_shifted _ c.if-n-ge-SETTINGS_MOST.false in
    rw (live-some _ _ _ c.if-m-j.false) (omega (arith, shifted))
