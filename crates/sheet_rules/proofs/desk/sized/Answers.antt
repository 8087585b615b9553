-- `sized` meets its contract: the rights of which none is stated, and no mark.
use Rattle.sheet_rules.proofs.HoldLaws.{sized-rules}
use Rattle.sheet_rules.proofs.desk.sized.Goals as goal

pub returns : goal.returns
returns c =
    let a = c.args in
    let h = c.requires in
    sized-rules a.settings a.posts h.0 h.1 h.2 h.3 c.unstated_rights-rights.result c.unstated_rights-rights.ensures
