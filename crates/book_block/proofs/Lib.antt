-- The laws of one block, in this order: its check, the test of each place in a range, a block that is sealed, the bits that must be zero, the kinds of block, the place of a rule;
-- and the theorems that others cite.
pub mod CheckLaws
pub mod EachLaws
pub mod SealLaws
pub mod StrayLaws
pub mod BlockLaws
pub mod RuleLaws
pub mod Theorems
