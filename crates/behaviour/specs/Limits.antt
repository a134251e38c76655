-- The limits of 01's "The description file", each named once.
use Rattle.std.specs.Prelude.{ℕ}

-- "S is 1 to 10"
abbrev pub most_states : ℕ
most_states = 10

-- "T is 0 to 96"
abbrev pub most_lines : ℕ
most_lines = 96

-- "the file at most 4,096 bytes"
abbrev pub most_bytes : ℕ
most_bytes = 4096
