-- The laws of `compliance` that rest on Definition 3.1.
pub mod NoBadRun
