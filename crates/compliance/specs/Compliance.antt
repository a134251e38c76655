-- Definition 3.1 of source 001, with its condition 1 read on forward steps, as 01 says.
use Rattle.std.specs.Prelude.{◌≡◌, [], ◌⊎◌, ℕ, None, Some}
use Rattle.behaviour.specs.declared.Behaviour.{Behaviour}
use Rattle.stands.specs.declared.ClientState.{ClientState}
use Rattle.stands.specs.declared.ServerState.{ServerState}
use Rattle.stands.specs.declared.Stand.{Stand}
use Rattle.stands.specs.Stands.{names, message, rollback, start}

-- "δ = γ = ∘": neither side has a return point
abbrev pub Neither : Stand → Type 0
Neither p = (p.clientpoint ≡ None) × (p.serverpoint ≡ None)

-- "δ, γ ∈ SB▲": both have one
abbrev pub Both : Stand → Type 0
Both p = (x : ClientState) × (y : ServerState) × (p.clientpoint ≡ Some x) × (p.serverpoint ≡ Some y)

-- i) 1) "ρ = 1 and either δ = γ = ∘ or δ, γ ∈ SB▲"
abbrev pub Ended : Behaviour → Stand → Type 0
Ended c p = (names c p.client.0 ≡ []) × (Neither p ⊎ Both p)

-- i) the stand p is in H(R): 1) if it has no forward step it is ended; 2) every step leads into R
pub record H (c s : Behaviour) (R : Stand → Type 0) (p : Stand) : Type 0 where
  pub ended : ((n : ℕ) → message c s p n ≡ None) → Ended c p
  pub forward : (n : ℕ) (q : Stand) → message c s p n ≡ Some q → R q
  pub backward : (q : Stand) → rollback p ≡ Some q → R q

-- ii) R is a checkpoint compliance relation if it is within H(R)
abbrev pub Closed : Behaviour → Behaviour → (Stand → Type 0) → Type 0
Closed c s R = (p : Stand) → R p → H c s R p

-- ii) X is the greatest solution of X = H(X)
pub record Greatest (c s : Behaviour) (X : Stand → Type 0) : Type 1 where
  pub within : Closed c s X
  pub contains : (p : Stand) → H c s X p → X p
  pub above : (R : Stand → Type 0) → Closed c s R → (p : Stand) → R p → X p

-- iii) client and server are compliant if the greatest solution holds the start, that is, if some checkpoint compliance relation does
pub record Compliant (c s : Behaviour) : Type 1 where
  pub R : Stand → Type 0
  pub closed : Closed c s R
  pub holds : R start
