-- What a reader must believe of rules: what they state (`Rules`), the form of each line and what it does (`Forms`, `Steps`), where they end in a text
-- (`Reading`), the meaning of a whole text of rules (`Meaning`); what the desk holds, and what the functions give (`Desk`, `Reads`). `Turns` is for
-- the functions of this crate alone.
pub mod Rules
pub mod Forms
pub mod Steps
pub mod Reading
pub mod Meaning
pub mod Desk
pub mod Reads
pub mod Turns
