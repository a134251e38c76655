-- What `report` means: its definitions and their laws.
pub mod Said
pub mod RunText
pub mod Output
pub mod Reports
pub mod OneOutput
pub mod Examples
pub mod Followed
pub mod Judges
