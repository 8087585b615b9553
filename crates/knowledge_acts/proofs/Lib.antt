-- Laws that callers cite, one file for each definition of specs/ or idea; then what settles the contracts.
pub mod Seven
pub mod Outcomes
pub mod Acts
pub mod Unique
