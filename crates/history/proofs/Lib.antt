-- The laws of `history` that rest on how a session moves.
pub mod Meets
pub mod Shams
