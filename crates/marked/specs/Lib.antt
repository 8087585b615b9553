-- The marked examples of paper 01.
pub mod Row
pub mod Table
