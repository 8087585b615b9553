-- The laws of a sound book, in this order: its parts laid in order, its blocks, its rights, its head, its refusals, what it gives; and the
-- theorems that others cite.
pub mod InOrder
pub mod Laid
pub mod RightsLaws
pub mod BookLaws
pub mod BlockRows
pub mod RefusalLaws
pub mod SoundLaws
pub mod Theorems
