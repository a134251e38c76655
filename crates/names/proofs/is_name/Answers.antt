use Rattle.std.proofs.Common.{rules, ◌≡◌, ◌∙◌, ℕ, ◌<◌, ◌+◌, ◌-◌, get_or, take, tests}
use Rattle.std.specs.List.{list_all}
use Rattle.std.proofs.lemmas.Iterator.{YieldsList-from_slice}
use Rattle.std.proofs.lemmas.Iterator.Search.{all_from_yields_List}
use Rattle.std.proofs.iter.runs.Made.{chains}
use Rattle.names.specs.Names.{is_name_byte}
use Rattle.names.proofs.Names.{name-to, name-nowhere, spelt}
use Rattle.names.proofs.is_name.Goals as goal

pub returns-in-Some : goal.returns-in-Some
returns-in-Some c =
    let bs = c.to_be_bytes-bytes.result in
    let e : c.all.result ≡ list_all is_name_byte (take (c.in-Some.last + 1) bs) =
    all_from_yields_List is_name_byte _ _ c.all.result c.all.ensures.ran (YieldsList-from_slice (take (c.in-Some.last + 1) bs) cc) (λ x b q k. search (rules, tests)) in
    let b : c.in-Some.last < 8 = search rules in
    let f : get_or bs c.in-Some.last 0 ≡ 0 → ⊥ = search (rules, chains) in
    let back : (k : ℕ) → k < 7 - c.in-Some.last → get_or bs (7 - k) 0 ≡ 0 = λ k h. search (rules, chains) in
    e ∙ spelt _ ∙ name-to c.args.n bs (search rules) c.to_be_bytes-bytes.ensures (search rules) c.in-Some.last b f back

pub returns-in-None : goal.returns-in-None
returns-in-None c = name-nowhere c.args.n c.to_be_bytes-bytes.result (search rules) c.to_be_bytes-bytes.ensures (search rules) (λ i h. search (rules, chains))
