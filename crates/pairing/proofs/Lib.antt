-- The laws of `pairing` that rest on the kinds of stop.
pub mod Sides
pub mod OnDemand
