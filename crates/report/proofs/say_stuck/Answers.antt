-- `report::say_stuck` meets its contract.
use Rattle.std.proofs.Common.{length, map, ◌∙◌, ap, arith}
use Rattle.std.proofs.lemmas.List.{length-map, length-take}
use Rattle.ranks.specs.Joined.{name_of}
use Rattle.ranks.specs.Alphabet.{both-entered}
use Rattle.ranks.proofs.Putting.{joined-most}
use Rattle.report.proofs.say_stuck.Goals as goal

pub enter_all-requires : goal.enter_all-requires
enter_all-requires c =
    omega (arith, c.requires, length-take c.args.s.now.count c.args.s.now.messages, ap length c.used_messages.ensures, ap length c.new-names.ensures)

pub enter_all-requires-2 : goal.enter_all-requires-2
enter_all-requires-2 c =
    omega (
      arith,
      c.requires,
      length-take c.args.s.now.count c.args.s.now.messages,
      length-take c.args.c.now.count c.args.c.now.messages,
      ap length c.used_messages.ensures,
      ap length c.used_messages-2.ensures,
      ap length c.enter_all.ensures,
      joined-most (map name_of c.used_messages.result.now) c.new-names.result,
      length-map c.used_messages.result.now name_of,
      ap length c.new-names.ensures,
    )

pub returns : goal.returns
returns c =
    rw (c.as_slice.ensures.value ∙ both-entered c.args.c.now c.args.s.now c.new-names.ensures (rw c.used_messages.ensures at c.enter_all.ensures) (rw c.used_messages-2.ensures at c.enter_all-2.ensures)) at c.say_run.ensures
