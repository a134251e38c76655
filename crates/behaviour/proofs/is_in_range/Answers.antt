use Rattle.std.proofs.Common.{◌≡◌, arith, length, rules}
use Rattle.behaviour.specs.SoundLaws.{total-most}
use Rattle.behaviour.proofs.is_in_range.Goals as goal

pub overflow_add-result : goal.overflow_add-result
overflow_add-result c =
    let l : length c.args.marks ≡ 10 = search rules in
    omega (arith, total-most c.args.marks)
