-- Demand 3: what a session has to do "after any calls, refused ones among them".
-- It speaks of what is seen and of no session's fields, so that it cannot repeat the code's own update.
use Rattle.std.specs.Prelude.{◌≡◌, Bool, true, false, List, ◌⊎◌, ◌↔◌, ℕ, Option, None, Some}
use Rattle.history.specs.Calls.{Call, message, rollback, Calls, opening, ◌then◌}
use Rattle.history.specs.Side.{Side, Possible}
use Rattle.history.specs.Point.{Point}

-- which call is granted after any calls, and where each side stands after them
pub record Seen (A B : Type 0) : Type 0 where
  pub granted : Calls → Call → Bool
  pub client : Calls → A
  pub server : Calls → B

module _ {A B : Type 0} (C : Side A) (S : Side B) (w : Seen A B) where
  -- "A side's return point is the marked state it last left by a message since the last granted rollback (or the opening), or none"
  abbrev pub ClientPoint : Calls → Option A → Type 0
  ClientPoint = Point w.granted C.marked w.client

  abbrev pub ServerPoint : Calls → Option B → Type 0
  ServerPoint = Point w.granted S.marked w.server

  -- one side has the message m to send after the calls h, and the other takes every message that side may send
  abbrev pub Sendable : Calls → ℕ → Type 0
  Sendable h m = Possible C (w.client h) S (w.server h) m

-- named n: the number of the name that the bytes n are, if they are one
pub record Demand {A B : Type 0} (named : List ℕ → Option ℕ) (C : Side A) (S : Side B) (w : Seen A B) : Type 0 where
  -- "Opening hands back the start"
  pub opened : (w.client opening ≡ C.start) × (w.server opening ≡ S.start)
  -- "A refused session call hands back no session: the one given still holds"
  pub refused : (h : Calls) (c : Call) → w.granted h c ≡ false → (w.client (h then c) ≡ w.client h) × (w.server (h then c) ≡ w.server h)
  -- "a message is granted exactly if one side may send it and the other takes all that side may send"
  pub message-granted : (h : Calls) (n : List ℕ) → (w.granted h (message n) ≡ true) ↔ ((m : ℕ) × (named n ≡ Some m) × Sendable C S w h m)
  -- "both move"
  pub message-moves : (h : Calls) (n : List ℕ) (m : ℕ) → w.granted h (message n) ≡ true → named n ≡ Some m
      → (w.client (h then message n) ≡ C.goes (w.client h) m) × (w.server (h then message n) ≡ S.goes (w.server h) m)
  -- "A rollback is granted exactly when both hold one"
  pub rollback-granted : (h : Calls) → (w.granted h rollback ≡ true) ↔ ((x : A) × (y : B) × ClientPoint C S w h (Some x) × ServerPoint C S w h (Some y))
  -- "it puts both there"
  pub rollback-moves : (h : Calls) (x : A) (y : B) → w.granted h rollback ≡ true → ClientPoint C S w h (Some x) → ServerPoint C S w h (Some y)
      → (w.client (h then rollback) ≡ x) × (w.server (h then rollback) ≡ y)
  -- "and clears both"
  pub rollback_clears : (h : Calls) → w.granted h rollback ≡ true → ClientPoint C S w (h then rollback) None × ServerPoint C S w (h then rollback) None
  -- "At all times the client is finished, or one side has a message to send and the other takes every message it may send"
  pub always : (h : Calls) → (C.finished (w.client h) ≡ true) ⊎ ((m : ℕ) × Sendable C S w h m)
