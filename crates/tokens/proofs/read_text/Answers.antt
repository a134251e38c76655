-- `tokens::read_text` meets its contract.
use Rattle.std.proofs.Common.{◌≡◌, ◌≢◌, ◌∙◌, sym, ap, length, slice_index, rules}
use Rattle.std.proofs.iter.runs.Made.{chains}
use Rattle.tokens.specs.Tokens.{byte, text}
use Rattle.tokens.proofs.Texts.{NoneBefore, closed, text-open, text-closed}
use Rattle.tokens.proofs.read_text.Goals as goal
use Rattle.tokens.proofs.read_text.Goals.{After-exact}

pub returns-in_err-end : goal.returns-in_err-end
returns-in_err-end c =
    let s = c.args.rest.now in
    let quotes : NoneBefore 34 s (length s) = search (rules, chains) in
    search (rules, text-open s quotes)

-- the text is what stands before the place, closed by the byte there
at_end : (c : After-exact) → text c.args.rest.now ≡ closed c.split_at.result.0.now (byte 34 c.split_at.result.1.now)
at_end c =
    let s = c.args.rest.now in
    let n = c.in_ok-end.end in
    let quotes : NoneBefore 34 s n = search (rules, chains) in
    let ends : NoneBefore 10 s n = search (rules, chains) in
    let last : slice_index s n ≢ 34 → slice_index s n ≡ 10 = search (rules, chains) in
    let parts = c.split_at.ensures in
    text-closed s n quotes ends last ∙ rw (sym parts.front, sym parts.back)

pub returns-in_err-exact : goal.returns-in_err-exact
returns-in_err-exact c =
    let e = at_end (goal.at.returns-in_err-exact c).After-exact ∙ ap (closed _) c.in_err-exact.ensures in
    search (rules, e)

pub returns : goal.returns
returns c = at_end (goal.at.returns c).After-exact ∙ ap (closed _) c.in_ok-exact.ensures
