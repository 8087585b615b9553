-- What the desk holds of a sheet: its rules and what it asks, each on its own part.
use Rattle.std.specs.Prelude.{◌≤◌}
use Rattle.sheet_rules.specs.Desk.{RulesOnDesk}
use Rattle.sheet_question.specs.Desk.{AskedOnDesk}
use Rattle.sheet_reading.specs.Sheet.{Sheet}
use Rattle.sheet_reading.specs.declared.Desk.{Desk}

-- the desk holds what the sheet states: "The program takes n up to 5"
pub record OnDesk (sheet : Sheet) (d : Desk) : Type 0 where
  pub rules : RulesOnDesk sheet.size sheet.rules d.rules
  pub asked : AskedOnDesk d.rules.settings sheet.asked d.asked
  pub few : d.rules.settings ≤ 5
