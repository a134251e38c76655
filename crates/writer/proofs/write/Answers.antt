-- `writer::write` meets its contract.
use Rattle.std.proofs.Common.{arith, rules}
use Rattle.text.specs.Fronts.{fronts-length}
use Rattle.writer.specs.Lengths.{text-few}
use Rattle.writer.proofs.Whole.{text-short, sound-few}
use Rattle.writer.proofs.write.Goals as goal

pub overflow_add-lines : goal.overflow_add-lines
overflow_add-lines c =
    let f = sound-few c.args.b c.if-not-is_sound.ensures in
    record { fits = omega (arith, f, c.from.ensures, c.marked_count.ensures) }

pub put_front-requires : goal.put_front-requires
put_front-requires c κs within =
    let f = sound-few c.args.b c.if-not-is_sound.ensures in
    let s = text-short c.args.b f in
    search rules

pub overflow_cast-result : goal.overflow_cast-result
overflow_cast-result c = record { fits = omega (arith, fronts-length {n = c.in_ok-n.n} c.put_front.ensures (grind arith), text-few c.args.b (sound-few c.args.b c.if-not-is_sound.ensures)) }
