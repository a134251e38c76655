-- What `packing` means: its definitions and their laws.
pub mod Value
pub mod Numbers
pub mod Back
pub mod BackStand
