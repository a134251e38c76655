-- How a session moves by the steps alone and never comes to a bad stand.
use Rattle.std.specs.Prelude.{◌≡◌, true, List, ◌⊎◌, ℕ, Option, None, Some}
use Rattle.names.specs.If.{if}
use Rattle.history.specs.Calls.{Call, message, rollback}
use Rattle.history.specs.Side.{Side, Possible}
use Rattle.history.specs.Played.{Standing, has}

module _ {A B : Type 0} (C : Side A) (S : Side B) where
  abbrev pub first : Standing A B
  first = record { client = C.start; clientpoint = None; server = S.start; serverpoint = None }

  -- by the message m from z to y
  pub record Moved (z : Standing A B) (m : ℕ) (y : Standing A B) : Type 0 where
    pub can : Possible C z.client S z.server m
    pub client : y.client ≡ C.goes z.client m
    pub clientpoint : y.clientpoint ≡ if (C.marked z.client) (Some z.client) z.clientpoint
    pub server : y.server ≡ S.goes z.server m
    pub serverpoint : y.serverpoint ≡ if (S.marked z.server) (Some z.server) z.serverpoint

-- by a rollback from z to y
pub record Rolled {A B : Type 0} (z y : Standing A B) : Type 0 where
  pub client : z.clientpoint ≡ Some y.client
  pub clientpoint : y.clientpoint ≡ None
  pub server : z.serverpoint ≡ Some y.server
  pub serverpoint : y.serverpoint ≡ None

-- by such steps alone the calls lead on from the session opened; Good holds of every session that comes up
pub record Steps {A B : Type 0} (named : List ℕ → Option ℕ) (C : Side A) (S : Side B) {Z : Type 0} (next : Z → Call → Option Z) (opened : Z) (at : Z → Standing A B) : Type 1 where
  pub Good : Z → Type 0
  pub begins : at opened ≡ first C S
  pub good : Good opened
  pub good-next : (z y : Z) (c : Call) → Good z → next z c ≡ Some y → Good y
  pub speaks : (z : Z) (n : List ℕ) (m : ℕ) → Good z → named n ≡ Some m → Possible C (at z).client S (at z).server m → has (next z (message n)) ≡ true
  pub moved : (z y : Z) (n : List ℕ) → Good z → next z (message n) ≡ Some y → (m : ℕ) × (named n ≡ Some m) × Moved C S (at z) m (at y)
  pub rolls : (z : Z) (x : A) (y : B) → Good z → (at z).clientpoint ≡ Some x → (at z).serverpoint ≡ Some y → has (next z rollback) ≡ true
  pub rolled : (z y : Z) → Good z → next z rollback ≡ Some y → Rolled (at z) (at y)
  pub never_stuck : (z : Z) → Good z → (C.finished (at z).client ≡ true) ⊎ ((m : ℕ) × Possible C (at z).client S (at z).server m)
