-- `tokens::skip` meets its contract.
use Rattle.std.proofs.Common.{◌≢◌, ◌∙◌, sym, length, slice_index, rules}
use Rattle.std.proofs.iter.runs.Made.{chains}
use Rattle.std.proofs.lemmas.List.{take_rest}
use Rattle.tokens.proofs.Spaces.{SpacesBefore, spaces-alone, spaces-end}
use Rattle.tokens.proofs.skip.Goals as goal

pub returns-in-None : goal.returns-in-None
returns-in-None c =
    let s = c.args.rest.now in
    let before : SpacesBefore s (length s) = search (rules, chains) in
    sym (spaces-alone s before)

pub returns-in-Some : goal.returns-in-Some
returns-in-Some c =
    let s = c.args.rest.now in
    let n = c.in-Some.n in
    let before : SpacesBefore s n = search (rules, chains) in
    let other : slice_index s n ≢ 32 = search (rules, chains) in
    take_rest s n ∙ sym (spaces-end s n before other)
