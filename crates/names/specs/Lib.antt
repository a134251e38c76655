-- What `names` means: its definitions and their laws.
pub mod If
pub mod Names
pub mod Places
pub mod Tests
pub mod Order
pub mod Laws
pub mod ByteOrder
pub mod OneAnswer
