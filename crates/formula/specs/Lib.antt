-- What a reader must believe of formulas, above the grammar: what `read` answers. `Computed` is the same answer, computed by the grammar's
-- `Automaton`; proofs/Computed shows that it is that.
pub mod Read
pub mod Computed
