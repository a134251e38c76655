-- `report::report_in` meets its contract.
use Rattle.report.proofs.Reporting.{reports-client, reports-server, can-judge, reports-both}
use Rattle.report.proofs.report_in.Goals as goal

pub returns-in-Err : goal.returns-in-Err
returns-in-Err c = reports-client c.args.client.now c.args.server.now c.read_file.ensures c.in-Err.is c.say_refused.ensures

pub returns-in-Err-read_file : goal.returns-in-Err-read_file
returns-in-Err-read_file c = reports-server c.args.client.now c.args.server.now c.read_file.ensures c.in-Ok.is c.read_file-2.ensures c.in-Err-read_file.is c.say_refused-in-Err-read_file.ensures

pub say_verdict-requires : goal.say_verdict-requires
say_verdict-requires c = can-judge c.args.client.now c.args.server.now c.read_file.ensures c.in-Ok.is c.read_file-2.ensures c.in-Ok-read_file.is c.requires

pub returns : goal.returns
returns c = reports-both c.args.client.now c.args.server.now c.read_file.ensures c.in-Ok.is c.read_file-2.ensures c.in-Ok-read_file.is c.say_verdict.ensures
