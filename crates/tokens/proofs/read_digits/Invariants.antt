-- `tokens::read_digits` meets its contract.
use Rattle.std.proofs.Common.{◌≡◌, ◌-◌, ◌<◌}
use Rattle.tokens.specs.Tokens.{digits}
use Rattle.tokens.proofs.Digits.{cap}
use Rattle.tokens.proofs.read_digits.Given as goal

abbrev pub invariant-loop : goal.invariant-loop
invariant-loop l = (digits 4 l.first l.rest ≡ digits (4 - l.counter) l.v l.left) × (l.v < cap (4 - l.counter))
