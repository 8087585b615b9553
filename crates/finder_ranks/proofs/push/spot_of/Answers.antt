-- `finder_ranks::push::spot_of` meets its contract: the digit and the side are taken away at the setting's place.
use native.Mathlib.Omega.{arith}
use Rattle.finder_sides.proofs.CountLaws.{states_most}
use Rattle.finder_ranks.proofs.Spots.{rest_of, side_of}
use Rattle.finder_ranks.proofs.AtSpots.{is_digit}
use Rattle.finder_ranks.proofs.push.spot_of.Goals as goal

pub overflow_mul-result : goal.overflow_mul-result
overflow_mul-result c =
    omega (
      arith,
      (rest_of c.args.n c.args.k c.args.i c.args.d c.requires.4 c.args.seven c.requires.5),
      c.requires.1,
      states_most c.args.n c.requires.0,
    )

pub overflow_sub-result : goal.overflow_sub-result
overflow_sub-result c = omega (arith, (rest_of c.args.n c.args.k c.args.i c.args.d c.requires.4 c.args.seven c.requires.5))

pub now_of-requires : goal.now_of-requires
now_of-requires c = is_digit c.args.k c.args.i c.args.d c.requires.4

pub overflow_mul-result-2 : goal.overflow_mul-result-2
overflow_mul-result-2 c =
    omega (
      arith,
      (side_of c.args.n c.args.k c.args.i c.args.d c.requires.4
          c.args.three c.args.side c.now_of.result c.requires.3 c.requires.2
          c.now_of.ensures c.requires.6),
      c.ranges.side,
    )

pub overflow_sub-result-2 : goal.overflow_sub-result-2
overflow_sub-result-2 c =
    omega (
      arith,
      (side_of c.args.n c.args.k c.args.i c.args.d c.requires.4
          c.args.three c.args.side c.now_of.result c.requires.3 c.requires.2
          c.now_of.ensures c.requires.6),
    )

pub returns : goal.returns
returns c =
    record {
      few = c.requires.0;
      state = c.requires.1;
      setting = c.requires.3;
      rest_is = omega (
        arith,
        (rest_of c.args.n c.args.k c.args.i c.args.d c.requires.4
            c.args.seven c.requires.5),
      );
      side_is = omega (
        arith,
        (side_of c.args.n c.args.k c.args.i c.args.d c.requires.4
            c.args.three c.args.side c.now_of.result c.requires.3 c.requires.2
            c.now_of.ensures c.requires.6),
      );
      seven_is = c.requires.5;
      three_is = c.requires.6;
    }
