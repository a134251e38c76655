-- What `laws` means: its laws.
pub mod Picking
pub mod Causes
pub mod Rollbacks
pub mod Backs
