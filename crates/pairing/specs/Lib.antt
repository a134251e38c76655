-- What `pairing` means: its definitions and their laws.
pub mod Numbered
pub mod Rows
pub mod Points
pub mod Sides
pub mod OnDemand
pub mod Sounds
pub mod Judging
