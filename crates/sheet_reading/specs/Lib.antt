-- What a reader must believe of a sheet that is read: what it states (`Sheet`), its meaning, put together from that of its rules and of its question
-- (`Reading`); the grammar of well-formed sheets, the place of 22, and every refusal told by the grammar (`Grammar`, `Place`, `Faults`); what the desk
-- holds, and what `read` gives (`Desk`, `Reads`).
pub mod Sheet
pub mod Reading
pub mod Grammar
pub mod Place
pub mod Faults
pub mod Desk
pub mod Reads
