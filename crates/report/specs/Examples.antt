-- 01's own examples of the output, computed: the layer and prj pair, and `server 4 1`.
use Rattle.std.specs.Prelude.{refl, [], ◌∷◌}
use Prim.Native.String.{String}
use Rattle.names.specs.Names.{name, name_text}
use Rattle.behaviour.specs.Pick.{pick}
use Rattle.tokens.specs.Tokens.{spaces, byte, digits, number, word, text as chars, quoted, label}
use Rattle.tokens.specs.Lines.{head, line}
use Rattle.aut.specs.Adding.{insert, has, add, check}
use Rattle.aut.specs.File.{value_of, file, lines, marked_finished}
use Rattle.stands.specs.Stands.{step, alphabet, ascending, put, nth, cause, possible, moved, message, rollback, from, among, within}
use Rattle.stands.specs.Judgement.{stuck}
use Rattle.stands.specs.Computing.{judge, judge_ok, full, cause_of, equal, point_code}
use Rattle.stands.specs.Cases.{bytes}
use Rattle.runs.specs.System as runs
use Rattle.runs.specs.Compute.{computed, said, nodes, labels, led, found, known, first, say}
use Rattle.text.specs.Spelling.{decimal_of, opening, closing, head_text}
use Rattle.report.specs.RunText.{step_lines, run_text}
use Rattle.report.specs.Output.{Prints, client-refused, server-refused, both-judged, judged_text}

abbrev layer_client : String
layer_client = "des (0,3,3)\n(0,\"ckp\",0)\n(0,\"!layer\",1)\n(1,\"!prj\",2)\n"

abbrev layer_server : String
layer_server = "des (0,4,3)\n(0,\"ckp\",0)\n(0,\"?layer\",1)\n(1,\"ckp\",1)\n(1,\"?prj\",2)\n"

-- "Whole output for client […] and server […]"
pub layer_output : Prints (bytes layer_client) (bytes layer_server) (bytes "stuck 1 3\ndes (0,3,4)\n(0,\"!layer\",1)\n(1,\"!prj\",2)\n(2,\"rbk\",3)\n")
unfolding bytes file lines marked_finished head line spaces byte digits number word chars quoted name name_text label insert has add check
    judge full cause_of equal point_code computed said nodes labels led found known first say
    step alphabet ascending put nth cause possible moved message rollback from pick among within runs.from
    decimal_of opening closing head_text step_lines run_text judged_text
layer_output = both-judged _ _ refl refl (stuck 1 (0 ∷ 1 ∷ 255 ∷ [])) (judge_ok (value_of (file (bytes layer_client))) (value_of (file (bytes layer_server))) (stuck 1 (0 ∷ 1 ∷ 255 ∷ [])) refl) refl

-- "`server 4 1`"
pub server_output : Prints (bytes "des (0,0,1)\n") (bytes "des (0,0,11)\n") (bytes "server 4 1\n")
unfolding bytes file lines marked_finished head line spaces byte digits number word decimal_of
server_output = server-refused refl _ refl refl

-- "the client is read first and the server not at all if the client is refused"
pub client_output : Prints (bytes "des (1,0,2)\n") (bytes "des (0,0,11)\n") (bytes "client 3 1\n")
unfolding bytes file lines marked_finished head line spaces byte digits number word decimal_of
client_output = client-refused _ refl refl
