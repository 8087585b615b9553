-- What a reader must believe of a salvage, in this order: what becomes of each block, with the marks; the refusals in their order; and the promise.
pub mod Salvaged
pub mod Rows
pub mod Promise
