-- What a reader must believe beside the meaning of knowledge (crate knowledge): what the digits tell of either side. `Walk` is inside: no public
-- contract cites it.
pub mod Sides
pub mod Walk
