-- The choice by a test, for every crate's definitions.
use Rattle.std.specs.Prelude.{Bool, true, false}

module _ {A : Type 0} where
  abbrev pub if : Bool → A → A → A
  if true a b = a
  if false a b = b
