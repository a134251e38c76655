-- Calls on a lent record give the same history as the calls by value, and so meet demand 3.
use Rattle.std.specs.Prelude.{◌≡◌, refl, Ok, Err}
use Rattle.std.proofs.Math.Path.{sym, ap}
use Rattle.std.proofs.Common.{◌∙◌, subst}
use Rattle.behaviour.specs.declared.Behaviour.{Behaviour}
use Rattle.history.specs.Calls.{Call, Calls, opening, ◌then◌}
use Rattle.history.specs.Demand.{Demand}
use Rattle.history.specs.Played.{has, or_else, session}
use Rattle.session.specs.declared.Session.{Session}
use Rattle.session.specs.Said.{Answer}
use Rattle.session.specs.Answers.{named}
use Rattle.session.specs.Opening.{Begins}
use Rattle.session.specs.Sides.{client_side, server_side}
use Rattle.session.specs.Watched.{answered, handed_back, next, watched}
use Rattle.session.proofs.Demand3.{demand3}
use Rattle.lines.specs.Lent.{Kept, kept_of}
use Rattle.lines.specs.History.{Line, granted, seen_of}

kept-session : (z : Session) (a : Answer) → (kept_of z a).session ≡ or_else z (handed_back a)
kept-session z (Ok y) = refl
kept-session z (Err f) = refl

kept-granted : (z : Session) (a : Answer) → granted (kept_of z a).outcome ≡ has (handed_back a)
kept-granted z (Ok y) = refl
kept-granted z (Err f) = refl

module _ (c s : Behaviour) (z : Session) (l : Line c s z) where
  -- the record holds the session that the calls by value would hand on
  pub same-session : (h : Calls) → l.holds h ≡ session (next c s) z h
  unfolding session
  same-session opening = l.first
  same-session (h then k) =
      sym (ap (λ (r : Kept). r.session) (l.kept h k)) ∙ kept-session (l.holds h) (answered c s (l.holds h) k)
      ∙ ap (λ y. or_else y (next c s y k)) (same-session h)

  -- and the same calls are granted
  pub same-granted : (h : Calls) (k : Call) → granted (l.says h k) ≡ (watched c s z).granted h k
  same-granted h k =
      sym (ap (λ (r : Kept). granted r.outcome) (l.kept h k)) ∙ kept-granted (l.holds h) (answered c s (l.holds h) k)
      ∙ ap (λ y. has (next c s y k)) (same-session h)

  pub same_seen : seen_of l ≡ watched c s z
  same_seen = λ i. record {
    granted = λ h k. same-granted h k i;
    client = λ h. (same-session h i).stand.client;
    server = λ h. (same-session h i).stand.server;
  }

  pub lines-demand3 : Begins c s z → Demand named (client_side c) (server_side s) (seen_of l)
  lines-demand3 b = subst (Demand named (client_side c) (server_side s)) (sym same_seen) (demand3 c s z b)
