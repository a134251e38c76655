-- The laws that the proofs of `session` share.
pub mod Opened
pub mod Demand3
