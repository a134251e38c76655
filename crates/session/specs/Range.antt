-- Of sound values: steps keep a stand within what 15 asks.
use Rattle.std.proofs.Math.Path.{◌≡◌, refl, subst}
use Rattle.std.specs.Prelude.{Bool, ◌&&◌, ℕ, ltb, None, Some}
use Rattle.std.proofs.Math.Bool.{true, false}
use Rattle.std.proofs.Common.{arith, lt-ltb}
use Rattle.names.specs.If.{if}
use Rattle.names.specs.Tests.{both}
use Rattle.behaviour.specs.declared.Behaviour.{Behaviour}
use Rattle.behaviour.specs.Pick.{is}
use Rattle.behaviour.specs.Sound.{messages}
use Rattle.behaviour.specs.SoundLaws.{Parts}
use Rattle.stands.specs.Points.{ClientPoint}
use Rattle.stands.specs.Points.{ServerPoint}
use Rattle.stands.specs.declared.Stand.{Stand}
use Rattle.stands.specs.Stands.{among, marked, target, possible, moved, message, back, rollback, start}
use Rattle.compliance.specs.SoundStand.{client_held, server_held}
use Rattle.compliance.specs.Kept.{all_end, ends-pick}
use Rattle.steps.specs.Tests.{held, is_stand}

-- a line leads to a state in range
in-range : (b : Behaviour) (x n : ℕ) → Parts b → ltb (target b x n) b.states ≡ true
in-range b x n z = lt-ltb (target b x n) b.states (ends-pick b.states (is x n) (messages b) z.some-state (all_end b.states (messages b) z.between))

-- more than 15 asks, so that it stays: a return point is in range too
abbrev pub returns : Behaviour → ℕ → Bool
returns b x = ltb x b.states && marked b x

abbrev pub client_returns : Behaviour → ClientPoint → Bool
client_returns c None = true
client_returns c (Some x) = returns c x.0

abbrev pub server_returns : Behaviour → ServerPoint → Bool
server_returns s None = true
server_returns s (Some y) = returns s y.0

pub record Within (c s : Behaviour) (p : Stand) : Type 0 where
  pub client : ltb p.client.0 c.states ≡ true
  pub clientpoint : client_returns c p.clientpoint ≡ true
  pub server : ltb p.server.0 s.states ≡ true
  pub serverpoint : server_returns s p.serverpoint ≡ true

client-held : (c : Behaviour) (g : ClientPoint) → client_returns c g ≡ true → held c.marks (client_held g) ≡ true
client-held c None e = refl
client-held c (Some x) e = (both (ltb x.0 c.states) _ e).1

server-held : (s : Behaviour) (h : ServerPoint) → server_returns s h ≡ true → held s.marks (server_held h) ≡ true
server-held s None e = refl
server-held s (Some y) e = (both (ltb y.0 s.states) _ e).1

pub within-stand : (c s : Behaviour) (p : Stand) → Within c s p → is_stand c s p ≡ true
unfolding is_stand
within-stand c s p w = rw (w.client, w.server, client-held c p.clientpoint w.clientpoint) (server-held s p.serverpoint w.serverpoint)

pub start-within : (c s : Behaviour) → Parts c → Parts s → Within c s start
start-within c s a b = record { client = lt-ltb 0 c.states a.some-state; clientpoint = refl; server = lt-ltb 0 s.states b.some-state; serverpoint = refl }

module _ (c s : Behaviour) (a : Parts c) (b : Parts s) (p q : Stand) (w : Within c s p) where
  client-kept : (t : Bool) → marked c p.client.0 ≡ t → client_returns c (if t (Some p.client) p.clientpoint) ≡ true
  client-kept true e = rw (w.client, e)
  client-kept false e = w.clientpoint

  server-kept : (t : Bool) → marked s p.server.0 ≡ t → server_returns s (if t (Some p.server) p.serverpoint) ≡ true
  server-kept true e = rw (w.server, e)
  server-kept false e = w.serverpoint

  moved-within : (n : ℕ) → Within c s (moved c s p n)
  unfolding moved
  moved-within n = record {
    client = in-range c p.client.0 n a;
    clientpoint = client-kept (marked c p.client.0) refl;
    server = in-range s p.server.0 n b;
    serverpoint = server-kept (marked s p.server.0) refl;
  }

  pub message-within : (n : ℕ) → message c s p n ≡ Some q → Within c s q
  unfolding message
  message-within n = go (among n (possible c s p.client p.server))
    where
      go : (t : Bool) → if t (Some (moved c s p n)) None ≡ Some q → Within c s q
      go true e = let z : moved c s p n ≡ q = cc in subst (Within c s) z (moved-within n)
      go false e = absurd (let z : ◌≡◌ {A = ℕ} 0 1 = cc in omega arith)

  pub rollback-within : rollback p ≡ Some q → Within c s q
  unfolding rollback
  rollback-within = go p.clientpoint p.serverpoint w.clientpoint w.serverpoint
    where
      go : (g : ClientPoint) (h : ServerPoint) → client_returns c g ≡ true → server_returns s h ≡ true → back g h ≡ Some q → Within c s q
      go (Some x) (Some y) e f k =
          let z : record { client = x; clientpoint = None; server = y; serverpoint = None } ≡ q = cc in
          subst (Within c s) z (record { client = (both (ltb x.0 c.states) _ e).0; clientpoint = refl; server = (both (ltb y.0 s.states) _ f).0; serverpoint = refl })
      go (Some x) None e f k = absurd (let z : ◌≡◌ {A = ℕ} 0 1 = cc in omega arith)
      go None h e f k = absurd (let z : ◌≡◌ {A = ℕ} 0 1 = cc in omega arith)
