-- The laws of a sheet's answer: from the desk to the question that is asked; and the theorems that others cite.
pub mod SheetQuestion
pub mod DeskRights
pub mod DeskQuestion
pub mod AnswerLaws
pub mod OneQuestion
pub mod Theorems
