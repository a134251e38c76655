-- What `rowlaws` means: its definitions and their laws.
pub mod Members
pub mod Lined
pub mod Full
pub mod RowsFilled
