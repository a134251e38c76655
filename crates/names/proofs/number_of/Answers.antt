use Rattle.std.proofs.Common.{rules, ◌≡◌, sym, ap, ◌∙◌, ℕ, ◌-◌, ◌++◌, replicate, drop, length, arith, tests}
use Rattle.std.specs.Int.{w64, from_be_bytes}
use Rattle.std.proofs.lemmas.List.{length-drop, take_all, drop-replicate}
use Rattle.std.proofs.lemmas.Iterator.{YieldsList-from_slice}
use Rattle.std.proofs.lemmas.Iterator.Search.{all_from_yields_List}
use Rattle.names.specs.Names.{is_name_byte, name_number}
use Rattle.names.proofs.Names.{name-filled, name-long, name-misspelt, name-nothing, spelt, filled}
use Rattle.names.proofs.number_of.Goals.{then-name-gt-NAME_BYTES-via-then-name-gt-NAME_BYTES, then-name-gt-NAME_BYTES-via-else-name-gt-NAME_BYTES+then-not-all}
use Rattle.names.proofs.number_of.Goals as goal

pub returns-in_default : goal.returns-in_default
returns-in_default c = name-nothing c.args.b.now c.args.from (search rules)

pub returns-then-name-gt-NAME_BYTES : goal.returns-then-name-gt-NAME_BYTES
returns-then-name-gt-NAME_BYTES c =
    let s = c.in-Some.name.now in
    let b = c.args.b.now in
    let d = length-drop c.args.from b in
    let e : s ≡ drop c.args.from b = c.in-Some.ensures.lookup.0.2 ∙ take_all (length b - c.args.from) (drop c.args.from b) (omega arith) in
    rw (← e)
    (elim c.then-name-gt-NAME_BYTES.branch [
      | then-name-gt-NAME_BYTES-via-then-name-gt-NAME_BYTES w ↦ name-long s (omega arith)
      | then-name-gt-NAME_BYTES-via-else-name-gt-NAME_BYTES+then-not-all w ↦
          let r = all_from_yields_List is_name_byte _ _ w.all.result w.all.ensures.ran (YieldsList-from_slice s cc) (λ x b q k. search (rules, tests)) in
          name-misspelt s (sym (spelt s) ∙ sym r ∙ w.if-not-all.true)
    ])

pub returns : goal.returns
returns c =
    let s = c.in-Some.name.now in
    let b = c.args.b.now in
    let d = length-drop c.args.from b in
    let e : s ≡ drop c.args.from b = c.in-Some.ensures.lookup.0.2 ∙ take_all (length b - c.args.from) (drop c.args.from b) (omega arith) in
    let r = all_from_yields_List is_name_byte _ _ c.all.result c.all.ensures.ran (YieldsList-from_slice s cc) (λ x b q k. search (rules, tests)) in
    let f : c.copy_from_slice.new.self ++ drop (length s) (replicate {A = ℕ} 8 0) ≡ filled 8 s =
    rw (c.copy_from_slice.ensures.after, drop-replicate {X = ℕ} (length s) 8 0) in
    c.from_be_bytes.ensures ∙ ap (from_be_bytes w64) f ∙ sym (name-filled s (sym (spelt s) ∙ sym r ∙ c.if-not-all.false) (omega arith)) ∙ ap name_number e
