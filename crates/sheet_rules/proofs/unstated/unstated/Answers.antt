-- `unstated` meets its contract: the text of each kind.
use Rattle.sheet_rules.specs.Rules.{unstated}
use Rattle.sheet_rules.proofs.unstated.unstated.Goals as goal

pub returns-in-Look : goal.returns-in-Look
unfolding unstated
returns-in-Look c = rw c.in-Look.is

pub returns-in-Set : goal.returns-in-Set
unfolding unstated
returns-in-Set c = rw c.in-Set.is
