-- What the C functions return is settled, and can be taken apart.
pub mod Unique
pub mod Apart
