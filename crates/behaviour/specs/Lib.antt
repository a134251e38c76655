-- What `behaviour` means: its definitions and their laws.
pub mod Limits
pub mod Refusals
pub mod Printed
pub mod Pick
pub mod Sound
pub mod Ordered
pub mod Spoken
pub mod SoundLaws
