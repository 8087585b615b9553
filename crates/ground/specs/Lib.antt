-- What a reader must believe of the ground: digits and bits, finite search, tables, quoted text, answers of yes or no, and the bounds.
pub mod Digits
pub mod Search
pub mod Table
pub mod Text
pub mod Tells
pub mod Bounds
