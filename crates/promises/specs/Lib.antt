-- What `promises` means: its definitions and their laws.
pub mod Table
pub mod Reading
pub mod Values
pub mod Sessions
pub mod Verdicts
pub mod Boundary
pub mod Through
pub mod Promises
pub mod OneAnswer
