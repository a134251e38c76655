-- The laws that the proofs of `behaviour` share.
pub mod Loops
mod Walking
pub mod Lengths
