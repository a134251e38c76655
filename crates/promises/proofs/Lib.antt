-- The theorems that rest on 01's table, on the cases of a call and on what an answer to C is.
pub mod Reading
pub mod Sessions
pub mod Verdicts
pub mod Boundary
pub mod Promises
