-- What `writer` means: its definitions and their laws.
pub mod Said
pub mod Text
pub mod Written
pub mod Lengths
