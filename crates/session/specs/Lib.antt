-- What `session` means: its definitions and their laws.
pub mod Said
pub mod Answers
pub mod Opening
pub mod OneAnswer
pub mod Sides
pub mod Watched
pub mod Steps
pub mod Range
