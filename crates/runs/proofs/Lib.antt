-- The laws of `runs` that rest on the order of runs, on what is reachable and on the verdict.
pub mod Unique
pub mod Rank
pub mod Front
pub mod Compute
pub mod Grown
