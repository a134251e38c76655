-- What `roundtrip` means: its definitions and their laws.
pub mod Numbers
pub mod Lines
pub mod AddAll
pub mod Rebuild
pub mod Sorted
pub mod Fair
pub mod RoundTrip
pub mod ReadValid
pub mod Soundness
pub mod Theorems
