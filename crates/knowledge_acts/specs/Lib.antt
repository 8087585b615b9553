-- What a reader must believe of acts: the seven digits, and acts with their bytes and outcomes.
pub mod Seven
pub mod Acts
