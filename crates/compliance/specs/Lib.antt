-- What `compliance` means: its definitions and their laws.
pub mod Kinds
pub mod Among
pub mod Labels
pub mod Order
pub mod SoundStand
pub mod Kept
pub mod Compliance
pub mod NoBadRun
pub mod OneJudgement
