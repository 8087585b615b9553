-- What a reader must believe of the tables over all sides: a side as a number (`Sides`) and what the tables hold (`Tables`). `Fill` and `Inner`
-- are for the crate's own functions.
pub mod Sides
pub mod Tables
pub mod Fill
pub mod Inner
