-- What `verdict` means: its definitions and their laws.
pub mod Said
pub mod Answer
pub mod Found
pub mod OneAnswer
