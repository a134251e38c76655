-- Where a promise is an equation, two answers that it allows for one input are the same answer.
use Rattle.std.specs.Prelude.{◌≡◌, List, Bool, ℕ, drop}
use Rattle.std.proofs.Common.{sym, ◌∙◌}
use Rattle.names.specs.Names.{is_name_byte, name_number, is_name}

pub one_answer : {A : Type 0} {x a b : A} → a ≡ x → b ≡ x → a ≡ b
one_answer p q = p ∙ sym q

pub one_name-byte : (c : ℕ) (a b : Bool) → a ≡ is_name_byte c → b ≡ is_name_byte c → a ≡ b
one_name-byte c a b p q = one_answer p q

pub one_number_of : (s : List ℕ) (from a b : ℕ) → a ≡ name_number (drop from s) → b ≡ name_number (drop from s) → a ≡ b
one_number_of s from a b p q = one_answer p q

pub one_is-name : (n : ℕ) (a b : Bool) → a ≡ is_name n → b ≡ is_name n → a ≡ b
one_is-name n a b p q = one_answer p q
