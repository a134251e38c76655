-- The laws that the proofs of `text` share.
pub mod Puts
pub mod Digits
pub mod Names
pub mod Fronts
