-- What a reader must believe of the plan check: the refusals of a plan's faults, what one byte comes to, and what `check` answers. `Inner` is inside:
-- no public contract cites it.
pub mod Refusals
pub mod Reading
pub mod Checks
pub mod Inner
