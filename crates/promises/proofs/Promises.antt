-- Demands 1 and 2 hold.
use Rattle.std.specs.Prelude.{take, Err}
use Rattle.std.proofs.Common.{sym, ap, subst, ◌∙◌}
use Rattle.behaviour.specs.declared.Reason.TheVariants as reason
use Rattle.aut.specs.File.{accept}
use Rattle.roundtrip.specs.Theorems.{read-sound, sound-written}
use Rattle.stands.specs.Stands.{said, cause, pair}
use Rattle.stands.specs.Stands as rules
use Rattle.verdict.specs.Said.{Verdict}
use Rattle.verdict.specs.Answer.{Says}
use Rattle.session.specs.Answers.{named, messaged, rolled_back}
use Rattle.packing.specs.Value.{value_bytes}
use Rattle.promises.proofs.Reading.{reading}
use Rattle.promises.specs.Values as values
use Rattle.promises.specs.Values.{Longer, LongerText, writing}
use Rattle.promises.specs.Sessions as sessions
use Rattle.promises.proofs.Sessions as calls
use Rattle.promises.proofs.Sessions.{called}
use Rattle.promises.specs.Verdicts.{by-definition, turned_down, shortest_given, count_given}
use Rattle.promises.proofs.Verdicts.{longer-refused}
use Rattle.promises.proofs.Boundary as c
use Rattle.promises.specs.Boundary.{c_write}
use Rattle.promises.specs.Through as through
use Rattle.promises.specs.Promises.{Demand1, Demand2}

-- THE THEOREMS
pub demand_1 : Demand1
unfolding messaged rolled_back
demand_1 = record {
  read = reading;
  write = λ b out left f w. values.writing-refused (writing b out (Err f) left w);
  judge = values.judge-refused;
  report = λ f g out left x h. values.report-refused f g out x left h;
  opening = sessions.open_refused;
  message = λ c s z name f e. calls.message-refused c s z name f (sym e);
  rollback = λ c s z f e. calls.rollback-refused c s z f (sym e);
  lent_open = sessions.lent_open;
  lent_message = λ c s line after name f e. let k = sessions.kept-refused line after (messaged c s line name) f e in (calls.message-refused c s line name f k.0, k.1);
  lent_rollback = λ c s line after f e. let k = sessions.kept-refused line after (rolled_back c s line) f e in (calls.rollback-refused c s line f k.0, k.1);
  c_read = c.c_read;
  c_write = c_write;
  c_judge = c.c_judge;
  c_text = c.c_text;
  c_open = c.c_open;
  c_message = c.c_message;
  c_rollback = c.c_rollback;
  write_13 = λ b out left r z w. values.writing_13 z (writing b out r left w);
  judge_13 = λ c s run left v y z h. values.judge_13 c s run left v y z h;
  open_13 = sessions.open_13;
  message_13 = λ c s z name y w. calls.call_13 (λ i. cc) y w (called c s z.stand reason.MessageNotPossible (said c s z.stand (named name)));
  rollback_13 = λ c s z y w. calls.call_13 (λ i. cc) y w (called c s z.stand reason.RollbackNotPossible (rules.rollback z.stand));
  open_14 = sessions.open_14;
  message_15 = λ c s z name g h. calls.call_15 (λ i. cc) g h (called c s z.stand reason.MessageNotPossible (said c s z.stand (named name)));
  rollback_15 = λ c s z g h. calls.call_15 (λ i. cc) g h (called c s z.stand reason.RollbackNotPossible (rules.rollback z.stand));
  message_16 = λ c s z name g h o. sessions.call-off g h o (called c s z.stand reason.MessageNotPossible (said c s z.stand (named name)));
  rollback_17 = λ c s z g h o. sessions.call-off g h o (called c s z.stand reason.RollbackNotPossible (rules.rollback z.stand));
  write_12 = λ b out left r g w. values.writing_12 g (writing b out r left w);
  judge_12 = λ c s run left v g h y. values.judge_12 c s run left v g h y;
  report_12 = λ f g out left r h. values.report_12 f g out r left h;
}

pub demand_2 : Demand2
demand_2 = record {
  verdict = λ c s run left v g h y. record {
    definition = by-definition c s run left g h v y;
    turned_down = turned_down c s run left g h v y;
    shortest = shortest_given c s run left g h v y;
    longer = longer-refused c s run left g h v y;
    counted = λ k e. count_given c s run left g h k (subst (λ (i : Verdict). Says c s run i left) e y);
  };
  reads_back = through.reads_back;
  keeps_meaning = λ bytes out left b n e w. through.reads_back b out left n (read-sound bytes b e).1 w ∙ sym e;
  has_room = λ bytes out left b r e l w. w.0 ∙ (sound-written b out (read-sound bytes b e).1 (read-sound bytes b e).0 l).0;
  c_keeps_meaning = λ bytes out value r room told n b e h g w l.
      through.c_reads_back (take value_bytes value) room told n w l ∙ ap accept (through.value_through bytes out value r b e h g) ∙ sym e;
}
