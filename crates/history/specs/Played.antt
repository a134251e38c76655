-- A session played over any list of calls, and what is seen of it.
use Rattle.std.specs.Prelude.{Bool, true, false, Option, None, Some}
use Rattle.history.specs.Calls.{Call, Calls, opening, ◌then◌}
use Rattle.history.specs.Demand.{Seen}

-- where both sides stand, with the return points that are held for them
pub record Standing (A B : Type 0) : Type 0 where
  pub client : A
  pub clientpoint : Option A
  pub server : B
  pub serverpoint : Option B

abbrev pub has : {A : Type 0} → Option A → Bool
has None = false
has (Some a) = true

abbrev pub or_else : {A : Type 0} → A → Option A → A
or_else a None = a
or_else a (Some b) = b

-- next z c: the session that the call c on z hands back, if it is granted
module _ {Z : Type 0} (next : Z → Call → Option Z) (opened : Z) where
  -- "every call gets […] the session that the opening or the last granted call handed back": a refused call hands back none, and the one given still holds
  unfoldable pub session : Calls → Z
  session opening = opened
  session (h then c) = or_else (session h) (next (session h) c)

  -- at z: where both sides stand in the session z
  abbrev pub seen : {A B : Type 0} → (Z → Standing A B) → Seen A B
  seen at = record { granted = λ h c. has (next (session h) c); client = λ h. (at (session h)).client; server = λ h. (at (session h)).server }
