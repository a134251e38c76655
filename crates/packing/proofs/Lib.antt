-- The laws that the proofs of `packing` share.
pub mod Names
pub mod Values
