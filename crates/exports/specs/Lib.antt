-- What the C functions return and leave in lent memory: a refusal as one number, what each function returns, and then what each leaves.
pub mod Packed
pub mod Returned
pub mod Formula
pub mod Book
pub mod Find
pub mod Check
pub mod Texts
pub mod Replay
