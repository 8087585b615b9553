-- How many settings and posts there may be.
use Rattle.std.specs.Prelude.{ℕ, ◌≤◌}

-- "Settings n: 1 to 7", "Posts m: 1 to 8"
pub record SettingsFit (n : ℕ) : Type 0 where
  pub least : 1 ≤ n
  pub most : n ≤ 7

pub record PostsFit (m : ℕ) : Type 0 where
  pub least : 1 ≤ m
  pub most : m ≤ 8
