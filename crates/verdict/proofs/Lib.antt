-- The laws that the proofs of `verdict` share.
pub mod Answering
