-- What `text` means: its definitions and their laws.
pub mod Spelling
pub mod Putting
pub mod Fronts
pub mod Lengths
