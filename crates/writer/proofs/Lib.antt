-- The laws that the proofs of `writer` share.
pub mod States
pub mod Whole
