-- The steps of a stand, in the terms of demand 3.
use Rattle.std.proofs.Math.Path.{◌≡◌, refl, subst}
use Rattle.std.proofs.Common.{sym, ◌∙◌, arith}
use Rattle.std.specs.Prelude.{Bool, ◌||◌, ◌⊎◌, ℕ, None, Some}
use Rattle.std.proofs.Math.Bool.{true, false}
use mathlib.Core.List.{List, [], ◌∷◌}
use Rattle.std.proofs.Math.Logic.{inl, inr, ⊎_elim}
use Rattle.names.specs.If.{if}
use Rattle.names.specs.Tests.{no, or_right, either}
use Rattle.behaviour.specs.declared.Behaviour.{Behaviour}
use Rattle.stands.specs.declared.ClientState.{ClientState}
use Rattle.stands.specs.declared.ServerState.{ServerState}
use Rattle.stands.specs.Points.{ClientPoint}
use Rattle.stands.specs.Points.{ServerPoint}
use Rattle.stands.specs.declared.Stand.{Stand}
use Rattle.stands.specs.Stands.{among, within, empty, finished, marked, takes, sends, offers, possible, moved, message, back, rollback, even, cause}
use Rattle.compliance.specs.Among.{among-append, among_first, within_all, all-within}
use Rattle.history.specs.Side.{Can, Possible}
use Rattle.history.specs.Played.{has}
use Rattle.history.specs.Meets.{Moved, Rolled}
use Rattle.session.specs.Sides.{client_side, server_side, client_point, server_point, standing}

-- one side may send it and the other takes all that side may send
module _ (b : Behaviour) (x : ℕ) (d : Behaviour) (y n : ℕ) where
  abbrev Sent : Type 0
  Sent = (among n (sends b x) ≡ true) × ((k : ℕ) → among k (sends b x) ≡ true → among k (takes d y) ≡ true)

  offered-sent : among n (offers b x d y) ≡ true → Sent
  unfolding among
  offered-sent = go (within (sends b x) (takes d y)) refl
    where
      go : (t : Bool) → within (sends b x) (takes d y) ≡ t → among n (if t (sends b x) []) ≡ true → Sent
      go true e f = (f, within_all (sends b x) (takes d y) e)
      go false e f = no f

  sent-offered : Sent → among n (offers b x d y) ≡ true
  sent-offered p = rw (all-within (sends b x) (takes d y) p.1) p.0

module _ (c s : Behaviour) (x : ClientState) (y : ServerState) (n : ℕ) where
  among-possible : among n (possible c s x y) ≡ (among n (offers c x.0 s y.0) || among n (offers s y.0 c x.0))
  unfolding possible
  among-possible = among-append n (offers c x.0 s y.0) (offers s y.0 c x.0)

  pub possible-can : among n (possible c s x y) ≡ true → Possible (client_side c) x (server_side s) y n
  unfolding Can
  possible-can e = ⊎_elim (λ f. inl (offered-sent c x.0 s y.0 n f)) (λ f. inr (offered-sent s y.0 c x.0 n f)) (either (among n (offers c x.0 s y.0)) (among n (offers s y.0 c x.0)) (sym among-possible ∙ e))

  pub can-possible : Possible (client_side c) x (server_side s) y n → among n (possible c s x y) ≡ true
  unfolding Can
  can-possible (inl p) = among-possible ∙ rw (sent-offered c x.0 s y.0 n p)
  can-possible (inr p) = among-possible ∙ or_right (among n (offers c x.0 s y.0)) (among n (offers s y.0 c x.0)) (sent-offered s y.0 c x.0 n p)

-- a message step
module _ (c s : Behaviour) (p : Stand) where
  pub speaks : (n : ℕ) → Possible (client_side c) p.client (server_side s) p.server n → has (message c s p n) ≡ true
  unfolding message
  speaks n e = rw (can-possible c s p.client p.server n e)

  client-held : (t : Bool) → client_point (if t (Some p.client) p.clientpoint) ≡ if t (Some p.client) (client_point p.clientpoint)
  client-held true = refl
  client-held false = refl

  server-held : (t : Bool) → server_point (if t (Some p.server) p.serverpoint) ≡ if t (Some p.server) (server_point p.serverpoint)
  server-held true = refl
  server-held false = refl

  by-moved : (n : ℕ) → among n (possible c s p.client p.server) ≡ true → Moved (client_side c) (server_side s) (standing p) n (standing (moved c s p n))
  unfolding moved
  by-moved n e = record {
    can = possible-can c s p.client p.server n e;
    client = refl;
    clientpoint = client-held (marked c p.client.0);
    server = refl;
    serverpoint = server-held (marked s p.server.0);
  }

  pub moves : (n : ℕ) (q : Stand) → message c s p n ≡ Some q → Moved (client_side c) (server_side s) (standing p) n (standing q)
  unfolding message
  moves n q = go (among n (possible c s p.client p.server)) refl
    where
      go : (t : Bool) → among n (possible c s p.client p.server) ≡ t → if t (Some (moved c s p n)) None ≡ Some q
          → Moved (client_side c) (server_side s) (standing p) n (standing q)
      go true e f = let z : moved c s p n ≡ q = cc in subst (λ r. Moved (client_side c) (server_side s) (standing p) n (standing r)) z (by-moved n e)
      go false e f = absurd (let z : ◌≡◌ {A = ℕ} 0 1 = cc in omega arith)

  -- a stand that is not bad
  pub going : cause c s p ≡ 0 → (finished c p.client.0 ≡ true) ⊎ ((n : ℕ) × Possible (client_side c) p.client (server_side s) p.server n)
  unfolding cause
  going e = go (possible c s p.client p.server) refl (finished c p.client.0) refl e
    where
      go : (l : List ℕ) → possible c s p.client p.server ≡ l → (t : Bool) → finished c p.client.0 ≡ t
          → ◌≡◌ {A = ℕ} (if (empty l) (if t (if (even p) 0 2) 1) 0) 0
          → (finished c p.client.0 ≡ true) ⊎ ((n : ℕ) × Possible (client_side c) p.client (server_side s) p.server n)
      go [] f true g k = inl g
      go [] f false g k = absurd (omega arith)
      go (n ∷ l) f t g k = inr (n, possible-can c s p.client p.server n (rw f (among_first n l)))

-- a rollback step
pub rolls : (p : Stand) (x : ClientState) (y : ServerState) → client_point p.clientpoint ≡ Some x → server_point p.serverpoint ≡ Some y → has (rollback p) ≡ true
unfolding rollback
rolls p x y = go p.clientpoint p.serverpoint
  where
    go : (g : ClientPoint) (h : ServerPoint) → client_point g ≡ Some x → server_point h ≡ Some y → has (back g h) ≡ true
    go (Some a) (Some b) e f = refl
    go (Some a) None e f = absurd (let z : ◌≡◌ {A = ℕ} 0 1 = cc in omega arith)
    go None h e f = absurd (let z : ◌≡◌ {A = ℕ} 0 1 = cc in omega arith)

pub goes_back : (p q : Stand) → rollback p ≡ Some q → Rolled (standing p) (standing q)
unfolding rollback
goes_back p q = go p.clientpoint p.serverpoint refl refl
  where
    go : (g : ClientPoint) (h : ServerPoint) → p.clientpoint ≡ g → p.serverpoint ≡ h → back g h ≡ Some q → Rolled (standing p) (standing q)
    go (Some a) (Some b) e f k =
        let z : record { client = a; clientpoint = None; server = b; serverpoint = None } ≡ q = cc in
        rw (e, f, ← z) (record { client = refl; clientpoint = refl; server = refl; serverpoint = refl })
    go (Some a) None e f k = absurd (let z : ◌≡◌ {A = ℕ} 0 1 = cc in omega arith)
    go None h e f k = absurd (let z : ◌≡◌ {A = ℕ} 0 1 = cc in omega arith)
