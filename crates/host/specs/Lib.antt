-- What `host` means: its definitions and their laws.
pub mod Numbers
pub mod Calls
pub mod OneAnswer
pub mod Parts
pub mod Sessions
pub mod Told
pub mod ReadTold
pub mod Enough
