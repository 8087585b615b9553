-- Inside: what the functions of this crate ask of a shift, so that the numbers that they print are small.
use Rattle.std.specs.Prelude.{List, ℕ, ◌≤◌, ◌<◌, length}
use Rattle.station.specs.Shift.{records}
use Rattle.station.specs.declared.record.Running.{Running}

-- "at most 2,097,152 bytes", as it stands and as bytes
pub record Readable (shift bytes : List ℕ) : Type 0 where
  pub shift_most : length shift ≤ 2097152
  pub bytes_most : length bytes ≤ 2097152

-- and there is a record after those that were done
pub record NextRecord (shift bytes : List ℕ) (running : Running) : Type 0 where
  pub readable : Readable shift bytes
  pub more : running.count < records bytes
