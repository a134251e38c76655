-- What `history` means: its definitions and their laws.
pub mod Calls
pub mod Side
pub mod Point
pub mod Demand
pub mod Determined
pub mod Played
pub mod Meets
pub mod Shams
