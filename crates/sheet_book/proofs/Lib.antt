-- The laws of a book that is made of a text of rules: its rights; and the theorems that others cite.
pub mod Rights
pub mod MakeLaws
pub mod Theorems
