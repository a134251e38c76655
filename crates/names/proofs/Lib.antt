-- The laws that the proofs of `names` share.
pub mod Names
