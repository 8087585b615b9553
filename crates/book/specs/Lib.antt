-- What a reader must believe of reading and writing a book, in this order: the bytes that the writer makes, the refusals in their order, and the
-- promises of the public functions. What a sound book and its rights are is crate book_sound's. `Inner` is for a private function.
pub mod Written
pub mod Rows
pub mod Promise
pub mod Inner
