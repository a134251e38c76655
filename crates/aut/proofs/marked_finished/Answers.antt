-- `aut::marked_finished` meets its contract.
use Rattle.std.proofs.Common.{◌≡◌, ◌<◌, ℕ, Option, Some, None, List, length, MatchOption, rules, arith}
use Rattle.std.proofs.iter.runs.Made.{chains}
use Rattle.behaviour.specs.Limits.{most_states}
use Rattle.aut.specs.File.{marked_finished}
use Rattle.aut.proofs.Places.{IsMarkedFinished, NoneBefore, marked-none, marked-first}
use Rattle.aut.proofs.marked_finished.Goals as goal

found : (ms gs : List ℕ) → length ms ≡ most_states → length gs ≡ most_states → (r : Option ℕ)
    → MatchOption r (NoneBefore ms gs most_states) (λ i. (i < most_states) × IsMarkedFinished ms gs i × NoneBefore ms gs i)
    → MatchOption r (marked_finished 0 ms gs ≡ most_states) (λ k. (k < most_states) × (marked_finished 0 ms gs ≡ k))
found ms gs l m None h = let e = marked-none 0 ms gs (omega arith) (λ k p. h k (omega arith)) in omega arith
found ms gs l m (Some i) h = let e = marked-first 0 i ms gs (omega (arith, h.0)) (omega (arith, h.0)) h.1 h.2 in (h.0, omega arith)

pub returns : goal.returns
returns c =
    let ms = c.args.marks.now in
    let gs = c.args.signs.now in
    let e : MatchOption c.position.result (NoneBefore ms gs most_states) (λ i. (i < most_states) × IsMarkedFinished ms gs i × NoneBefore ms gs i) = search (rules, chains) in
    found ms gs c.told-marks c.told-signs _ e
