-- The laws of a salvage, in this order: its marks, the blocks that it lays, what it refuses, the rules that stay; and the theorems that others cite.
pub mod MarkLaws
pub mod LaidLaws
pub mod RefusalLaws
pub mod RuleLaws
pub mod Theorems
