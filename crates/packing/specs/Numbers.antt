-- A stand as one number of 32 bits: client state, client return point, server state, server return point, the lowest byte first.
use Rattle.std.specs.Prelude.{ℕ, ◌+◌, ◌*◌, ◌/◌, ◌%◌, eqb, Option, None, Some}
use Rattle.names.specs.If.{if}
use Rattle.stands.specs.Points.{ClientPoint}
use Rattle.stands.specs.Points.{ServerPoint}
use Rattle.stands.specs.declared.Stand.{Stand}

-- the number of a return point that is none
abbrev pub nowhere : ℕ
nowhere = 255

abbrev pub client_point_number : ClientPoint → ℕ
client_point_number None = nowhere
client_point_number (Some x) = x.0

abbrev pub server_point_number : ServerPoint → ℕ
server_point_number None = nowhere
server_point_number (Some y) = y.0

-- the state that a byte codes as a return point
abbrev pub point_of : ℕ → Option ℕ
point_of n = if (eqb n nowhere) None (Some n)

abbrev pub client_point_of : ℕ → ClientPoint
client_point_of n = if (eqb n nowhere) None (Some (record { 0 = n }))

abbrev pub server_point_of : ℕ → ServerPoint
server_point_of n = if (eqb n nowhere) None (Some (record { 0 = n }))

unfoldable pub packed_stand : Stand → ℕ
packed_stand p = p.client.0 + 256 * (client_point_number p.clientpoint + 256 * (p.server.0 + 256 * server_point_number p.serverpoint))

unfoldable pub unpacked_stand : ℕ → Stand
unpacked_stand n = record {
  client = record { 0 = n % 256 };
  clientpoint = client_point_of (n / 256 % 256);
  server = record { 0 = n / 256 / 256 % 256 };
  serverpoint = server_point_of (n / 256 / 256 / 256 % 256);
}
