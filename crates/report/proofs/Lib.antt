-- The laws that the proofs of `report` share.
pub mod Shortest
pub mod Ranged
pub mod Few
pub mod Following
pub mod Going
pub mod Sizes
pub mod Judging
pub mod Reporting
pub mod Within
