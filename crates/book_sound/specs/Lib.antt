-- What a reader must believe of a sound book, in this order: what it is, and its rights; the refusals 6 to 9, with their order; and what `sound`
-- promises. Its blocks are those of crate book_block.
pub mod Sound
pub mod Rows
pub mod Promise
