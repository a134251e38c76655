-- The laws that the proofs of `tokens` share.
mod Laws
mod Digits
mod Labels
mod Spaces
mod Texts
mod Lines
