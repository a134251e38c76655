-- The laws that the proofs of `steps` share.
pub mod Picks
pub mod Offers
