-- `words` meets its contract. The loop's invariant: the first i settings were written.
use mathlib.Core.Path.{sym, ap, ◌≡◌}
use Prim.Native.Nat.{ℕ}
use native.Mathlib.Omega.{arith}
use Rattle.ground.specs.Digits.{bit}
use Rattle.book_sound.specs.Sound.{in_order}
use Rattle.print_room.proofs.Writing.{wrote_none, wrote_as, ends_as}
use Rattle.station_print.specs.Settings.{setting_word, setting_words}
use Rattle.station_print.proofs.Writing.{order_more, order_ends}
use Rattle.station_print.proofs.settings.words.Goals as goal

pub loop-i-init : goal.loop-i-init
unfolding setting_words in_order
loop-i-init c = wrote_none

pub setting_word-at-requires : goal.setting_word-at-requires
unfolding setting_words
setting_word-at-requires c =
    let l = c.loop-i in (
      omega arith,
      ends_as (ap (setting_word l.i) (sym c.bit_of.ensures))
          (order_ends (λ j. setting_word j (bit c.args.present j)) c.args.n l.i c.loop-i-test.true c.requires.1 l.invariant),
    )

pub loop-i-preserved : goal.loop-i-preserved
unfolding setting_words
loop-i-preserved c =
    let l = c.loop-i in
    order_more (λ j. setting_word j (bit c.args.present j)) l.invariant
    (wrote_as (ap (setting_word l.i) c.bit_of.ensures) c.setting_word-at.ensures)

pub returns : goal.returns
returns c =
    let l = c.loop-i in
    let all-of-them : l.i ≡ c.args.n = omega arith in
    wrote_as (ap (λ (k : ℕ). setting_words k c.args.present) all-of-them) l.invariant
