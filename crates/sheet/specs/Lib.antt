-- What a reader must believe of a sheet's answer: the question that it asks, and what is printed. `Inner` is for the private functions.
pub mod Answer
pub mod Inner
