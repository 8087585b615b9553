-- What "cannot" means for a secret: whatever permitted plan the team carries out, two starts remain that it cannot tell apart.
use Rattle.std.specs.Prelude.{◌≡◌, List, ℕ, ◌^◌, ◌<◌, T}
use Rattle.ground.specs.Digits.{digit}
use Rattle.ground.specs.Table.{truth}
use Rattle.knowledge.specs.Fits.{fits_start}
use Rattle.plan.specs.Plans.{Plan}
use Rattle.plan.specs.Runs.{run}

-- two starting valuations that agree with what is known at k and give the formula different values, on which the plan's runs do the
-- same acts and see the same readings to their end
pub record Twins (n : ℕ) (formula : List ℕ) (k : ℕ) (p : Plan) : Type 0 where
  pub one : ℕ
  pub other : ℕ
  pub one_lt : one < 2 ^ n
  pub other_lt : other < 2 ^ n
  pub one_fits : T (fits_start n (digit 7 k) one)
  pub other_fits : T (fits_start n (digit 7 k) other)
  pub differ : truth formula one ≡ truth formula other → ⊥
  pub same_run : run p one ≡ run p other
