-- What a reader must believe of refusals: the numbers of each, and which one is given where several could be.
pub mod Refusals
pub mod Order
