-- The laws of the station: of an act on true settings, of a record, of a shift and of a replay. Then what is promised of it: one answer alone (`OneAnswer`), and
-- each public function's own contract (`Unique`).
pub mod Laws
pub mod ShiftShape
pub mod FaultLaws
pub mod ActLaws
pub mod RecordLaws
pub mod ShiftLaws
pub mod ReplayLaws
pub mod OneAnswer
pub mod Unique
