-- Two answers that the promise of `read_file`, or of `nothing`, allows for one input are the same answer.
use Rattle.std.specs.Prelude.{◌≡◌, List, ℕ}
use Rattle.names.specs.OneAnswer.{one_answer}
use Rattle.behaviour.specs.declared.Behaviour.{Behaviour}
use Rattle.aut.specs.Adding.{bare}
use Rattle.aut.specs.File.{Read, value_of, file}

pub one_reading : (s : List ℕ) (a b : Read) → a ≡ file s → b ≡ file s → a ≡ b
one_reading s a b p q = one_answer p q

pub one_nothing : (n : ℕ) (a b : Behaviour) → a ≡ bare n → b ≡ bare n → a ≡ b
one_nothing n a b p q = one_answer p q

pub one_value : (r : Read) (a b : Behaviour) → a ≡ value_of r → b ≡ value_of r → a ≡ b
one_value r a b p q = one_answer p q
