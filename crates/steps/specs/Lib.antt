-- What `steps` means: its definitions and their laws.
pub mod Tests
