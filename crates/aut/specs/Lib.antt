-- What `aut` means: its definitions and their laws.
pub mod Adding
pub mod File
pub mod Inserting
pub mod Accepting
pub mod Swapping
pub mod Contents
pub mod AnyOrder
pub mod OneAnswer
