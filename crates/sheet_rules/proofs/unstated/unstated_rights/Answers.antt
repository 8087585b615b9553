-- `unstated_rights` meets its contract: the two tables, laid out.
use Rattle.sheet_rules.proofs.unstated.unstated_rights.Goals as goal

pub lay-requires : goal.lay-requires
lay-requires c = (c.unstated_table.ensures.table.sixteen, c.unstated_table-2.ensures.table.sixteen)

pub returns : goal.returns
returns c =
    record {
      looks = c.unstated_table.result;
      sets = c.unstated_table-2.result;
      look_table = c.unstated_table.ensures;
      set_table = c.unstated_table-2.ensures;
      laid = c.lay.ensures;
    }
