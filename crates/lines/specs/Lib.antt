-- What `lines` means: its definitions and their laws.
pub mod Said
pub mod Lent
pub mod History
pub mod OneOutcome
