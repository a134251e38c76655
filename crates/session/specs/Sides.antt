-- A client and a server as demand 3 reads them, and a stand of theirs.
use Rattle.std.specs.Prelude.{ℕ, Option, None, Some}
use Rattle.behaviour.specs.declared.Behaviour.{Behaviour}
use Rattle.stands.specs.declared.ClientState.{ClientState}
use Rattle.stands.specs.declared.ServerState.{ServerState}
use Rattle.stands.specs.Points.{ClientPoint}
use Rattle.stands.specs.Points.{ServerPoint}
use Rattle.stands.specs.declared.Stand.{Stand}
use Rattle.stands.specs.Stands.{among, target, finished, marked, takes, sends}
use Rattle.history.specs.Side.{Side}
use Rattle.history.specs.Played.{Standing}

-- over the type of a side's states
module _ {A : Type 0} (make : ℕ → A) (number : A → ℕ) (b : Behaviour) where
  abbrev pub side : Side A
  side = record {
    start = make 0;
    sends = λ x m. among m (sends b (number x));
    takes = λ x m. among m (takes b (number x));
    goes = λ x m. make (target b (number x) m);
    finished = λ x. finished b (number x);
    marked = λ x. marked b (number x);
  }

abbrev pub client_side : Behaviour → Side ClientState
client_side = side (λ n. record { 0 = n }) (λ x. x.0)

abbrev pub server_side : Behaviour → Side ServerState
server_side = side (λ n. record { 0 = n }) (λ y. y.0)

abbrev pub client_point : ClientPoint → Option ClientState
client_point None = None
client_point (Some x) = Some x

abbrev pub server_point : ServerPoint → Option ServerState
server_point None = None
server_point (Some y) = Some y

abbrev pub standing : Stand → Standing ClientState ServerState
standing p = record { client = p.client; clientpoint = client_point p.clientpoint; server = p.server; serverpoint = server_point p.serverpoint }
