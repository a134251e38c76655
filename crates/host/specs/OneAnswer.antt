-- Two answers (with the bytes left) that are allowed for one call are equal.
use Rattle.std.specs.Prelude.{◌≡◌, List, ℕ}
use Rattle.std.proofs.Common.{sym, ap, ◌∙◌}
use Rattle.verdict.specs.OneAnswer.{one_verdict}
use Rattle.session.specs.OneAnswer.{opens_one}
use Rattle.report.specs.OneOutput.{one_report}
use Rattle.packing.specs.Value.{unpacked}
use Rattle.host.specs.Numbers.{verdict_number, reported_number, session_number}
use Rattle.host.specs.Calls.{Reads, Writes, Judges, Opens, Messages, RollsBack, Texts}

pub one_read : (text out : List ℕ) (r q : ℕ) (d e : List ℕ) → Reads text out r d → Reads text out q e → (r ≡ q) × (d ≡ e)
one_read text out r q d e a b = (a.says ∙ sym b.says, a.leaves ∙ sym b.leaves)

pub one_written : (value out : List ℕ) (r q : ℕ) (d e : List ℕ) → Writes value out r d → Writes value out q e → (r ≡ q) × (d ≡ e)
one_written value out r q d e a b = (a.says ∙ sym b.says, a.leaves ∙ sym b.leaves)

pub one_judged : (c s run : List ℕ) (r q : ℕ) (d e : List ℕ) → Judges c s run r d → Judges c s run q e → (r ≡ q) × (d ≡ e)
one_judged c s run r q d e a b =
    let h = one_verdict (unpacked c) (unpacked s) run a.verdict b.verdict d e a.says b.says in
    (a.number ∙ ap verdict_number h.0 ∙ sym b.number, h.1)

pub one_opened : (c s : List ℕ) (r q : ℕ) → Opens c s r → Opens c s q → r ≡ q
one_opened c s r q a b =
    a.number ∙ ap session_number (opens_one (unpacked c) (unpacked s) a.answer b.answer a.opens b.opens) ∙ sym b.number

pub one_message : (c s : List ℕ) (n : ℕ) (name : List ℕ) (r q : ℕ) → Messages c s n name r → Messages c s n name q → r ≡ q
one_message c s n name r q a b = a ∙ sym b

pub one_rollback : (c s : List ℕ) (n r q : ℕ) → RollsBack c s n r → RollsBack c s n q → r ≡ q
one_rollback c s n r q a b = a ∙ sym b

pub one_text : (f g out : List ℕ) (r q : ℕ) (d e : List ℕ) → Texts f g out r d → Texts f g out q e → (r ≡ q) × (d ≡ e)
one_text f g out r q d e a b =
    let h = one_report f g out a.reported b.reported d e a.reports b.reports in
    (a.number ∙ ap reported_number h.0 ∙ sym b.number, h.1)
