-- A stand is what its number unpacks to, and a number is what its stand packs to: each has one other.
use Rattle.std.specs.Prelude.{◌≡◌, refl, ℕ, ◌+◌, ◌*◌, ◌/◌, ◌%◌, ◌<◌, Bool, true, false, eqb, Some, None}
use Rattle.std.proofs.Common.{sym, arith, eqb-true, ne_eqb}
use Rattle.names.specs.If.{if}
use Rattle.stands.specs.declared.ClientState.{ClientState}
use Rattle.stands.specs.declared.ServerState.{ServerState}
use Rattle.stands.specs.Points.{ClientPoint}
use Rattle.stands.specs.Points.{ServerPoint}
use Rattle.stands.specs.declared.Stand.{Stand}
use Rattle.packing.specs.Numbers.{nowhere, client_point_number, server_point_number, client_point_of, server_point_of, packed_stand, unpacked_stand}

-- the state of a return point is below the number of none
abbrev pub ClientBelow : ClientPoint → Type 0
ClientBelow g = (x : ClientState) → g ≡ Some x → x.0 < nowhere

abbrev pub ServerBelow : ServerPoint → Type 0
ServerBelow g = (y : ServerState) → g ≡ Some y → y.0 < nowhere

-- and the states are bytes, as those of the code are
pub record Small (p : Stand) : Type 0 where
  pub client : p.client.0 < 256
  pub clientpoint : ClientBelow p.clientpoint
  pub server : p.server.0 < 256
  pub serverpoint : ServerBelow p.serverpoint

-- the lowest byte of a number, and those above it
module _ (a k : ℕ) (h : a < 256) where
  lowest : (a + 256 * k) % 256 ≡ a
  lowest = omega arith

  above : (a + 256 * k) / 256 ≡ k
  above = omega arith

client-back : (g : ClientPoint) → ClientBelow g → client_point_of (client_point_number g) ≡ g
client-back None h = refl
client-back (Some x) h = rw (ne_eqb x.0 nowhere (λ e. omega (arith, h x refl)))

client-small : (g : ClientPoint) → ClientBelow g → client_point_number g < 256
client-small None h = omega arith
client-small (Some x) h = omega (arith, h x refl)

server-back : (g : ServerPoint) → ServerBelow g → server_point_of (server_point_number g) ≡ g
server-back None h = refl
server-back (Some y) h = rw (ne_eqb y.0 nowhere (λ e. omega (arith, h y refl)))

server-small : (g : ServerPoint) → ServerBelow g → server_point_number g < 256
server-small None h = omega arith
server-small (Some y) h = omega (arith, h y refl)

-- the number is one of 32 bits
pub packed-below : (p : Stand) → Small p → packed_stand p < 4294967296
unfolding packed_stand
packed-below p b = omega (arith, b.client, b.server, client-small p.clientpoint b.clientpoint, server-small p.serverpoint b.serverpoint)

-- what is packed unpacks as itself
pub stand-back : (p : Stand) → Small p → unpacked_stand (packed_stand p) ≡ p
unfolding packed_stand unpacked_stand
stand-back p b =
    let g = client-small p.clientpoint b.clientpoint in
    let h = server-small p.serverpoint b.serverpoint in
    let e : server_point_number p.serverpoint % 256 ≡ server_point_number p.serverpoint = omega arith in
    rw (
      above p.client.0 _ b.client,
      lowest p.client.0 _ b.client,
      above (client_point_number p.clientpoint) _ g,
      lowest (client_point_number p.clientpoint) _ g,
      above p.server.0 _ b.server,
      lowest p.server.0 _ b.server,
      e,
      client-back p.clientpoint b.clientpoint,
      server-back p.serverpoint b.serverpoint,
    )

-- what is unpacked packs as itself
client-there : (n : ℕ) → client_point_number (client_point_of n) ≡ n
client-there n = go (eqb n nowhere) refl
  where
    go : (t : Bool) → eqb n nowhere ≡ t → client_point_number (if t None (Some (record { 0 = n }))) ≡ n
    go true e = sym (eqb-true n nowhere e)
    go false e = refl

server-there : (n : ℕ) → server_point_number (server_point_of n) ≡ n
server-there n = go (eqb n nowhere) refl
  where
    go : (t : Bool) → eqb n nowhere ≡ t → server_point_number (if t None (Some (record { 0 = n }))) ≡ n
    go true e = sym (eqb-true n nowhere e)
    go false e = refl

pub stand-there : (n : ℕ) → n < 4294967296 → packed_stand (unpacked_stand n) ≡ n
unfolding packed_stand unpacked_stand
stand-there n h =
    let d : n / 256 / 256 / 256 % 256 ≡ n / 256 / 256 / 256 = omega arith in
    rw (client-there (n / 256 % 256), server-there (n / 256 / 256 / 256 % 256), d, whole (n / 256 / 256), whole (n / 256)) (whole n)
  where
    whole : (k : ℕ) → k % 256 + 256 * (k / 256) ≡ k
    whole k = omega arith
