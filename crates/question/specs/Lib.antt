-- What a reader must believe of a question, in this order: the acts that a book's rules permit, the system of plans that the question fixes, its
-- refusals in their order, and what `ask` gives; and a question of two legs.
pub mod Permitted
pub mod Question
pub mod Rows
pub mod Asks
pub mod Legs
