-- Text written piece by piece (`Writing`); the laws of what START says, of how settings are written, and of the line of an act at fault; how long each text is
-- (`Lengths`), and a shift that is not refused (`ShortLaws`); and what is told, by what was found (`PrintLaws`). Then what others cite: one result alone, the longest
-- text, the next START, and what a look at fault really shows (`Theorems`); each answer exactly where it is due (`Exactly`); texts computed (`Examples`).
mod Writing
mod StartLaws
mod SettingsLaws
mod FaultLaws
mod Lengths
mod ShortLaws
mod PrintLaws
pub mod Theorems
pub mod Played
pub mod Exactly
pub mod Examples
