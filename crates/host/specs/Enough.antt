-- Buffers of the sizes that include/tyttmose.h names are long enough: a call that is lent one is not refused with 12.
use Rattle.std.specs.Prelude.{◌≡◌, refl, Ok, Err, Bool, true, false, List, ◌⊎◌, ℕ, ◌≤◌, ◌*◌, length}
use Rattle.std.proofs.Common.{◌∙◌, ap, inl, inr, arith, le-leb}
use Rattle.behaviour.specs.declared.Behaviour.{Behaviour}
use Rattle.behaviour.specs.declared.Refusal.{Refusal}
use Rattle.behaviour.specs.Refusals.{row_number}
use Rattle.behaviour.specs.Limits.{most_bytes}
use Rattle.behaviour.specs.Sound.{sound}
use Rattle.behaviour.specs.SoundLaws.{parts}
use Rattle.aut.specs.File.{file}
use Rattle.runs.specs.System as runs
use Rattle.stands.specs.Stands.{alphabet}
use Rattle.stands.specs.Judgement.{Judgement, compliant, stuck, Judged}
use Rattle.stands.specs.Cases.{bytes}
use Rattle.writer.specs.Text.{text}
use Rattle.writer.specs.Lengths.{text-few}
use Rattle.roundtrip.specs.Theorems.{read-sound}
use Rattle.verdict.specs.Answer.{Unsound, TooLong, Says}
use Rattle.report.specs.RunText.{run_text}
use Rattle.report.specs.Output.{judged_text, Prints, client-refused, server-refused, both-judged}
use Rattle.report.specs.Followed.{stuck_text}
use Rattle.report.proofs.Few.{run-few}
use Rattle.report.proofs.Following.{followed-run}
use Rattle.report.proofs.Sizes.{word-length, compliant-length, stuck-length}
use Rattle.packing.specs.Value.{unpacked}
use Rattle.packing.specs.Back.{unpacked-sized}
use Rattle.host.specs.Numbers.{reported_number}
use Rattle.host.specs.Calls.{Writes, Texts}
use Rattle.host.specs.Parts.{refusal_in}

-- TYTTMOSE_TEXT_SIZE
pub enough-text : (value out : List ℕ) (r : ℕ) (left : List ℕ) → most_bytes ≤ length out → Writes value out r left → refusal_in r ≡ 12 → ⊥
enough-text value out r left h w e = go (sound (unpacked value)) refl
  where
    go : (t : Bool) → sound (unpacked value) ≡ t → ⊥
    go true q =
        let f = text-few (unpacked value) (parts (unpacked value) q).most-lines in
        let n : r ≡ length (text (unpacked value)) = w.says ∙ rw (q, le-leb (length (text (unpacked value))) (length out) (omega arith)) in
        omega (arith, n, f, e)
    go false q = let n : r ≡ 13 * 4294967296 = w.says ∙ rw q in omega (arith, n, e)

-- TYTTMOSE_RUN_SIZE
pub enough-run : (c s run left : List ℕ) (f : Refusal) → 12100 ≤ length run → Says (unpacked c) (unpacked s) run (Err f) left → row_number f.reason ≡ 12 → ⊥
unfolding Says
enough-run c s run left f h p e = go p.why
  where
    go : Unsound (unpacked c) (unpacked s) f ⊎ TooLong (unpacked c) (unpacked s) run f → ⊥
    go (inl u) = omega (arith, e, ap (λ (x : Refusal). row_number x.reason) u.is)
    go (inr t) =
        omega (
          arith,
          h,
          t.over,
          run-few (unpacked c) (unpacked s) t.cause t.steps t.sounds.client t.sounds.server (unpacked-sized c) (unpacked-sized s) t.judged,
        )

-- TYTTMOSE_REPORT_SIZE: a run's text has 26 bytes a step and two lines before
judged-few : (f g : List ℕ) (c s : Behaviour) → file f ≡ Ok c → file g ≡ Ok s → (j : Judgement) → Judged c s j
    → length (judged_text c s j) ≤ 327680
unfolding judged_text run_text stuck_text bytes Judged runs.IsVerdict
judged-few f g c s a b (compliant k) j = omega (arith, compliant-length k)
judged-few f g c s a b (stuck e r) j =
    let x = read-sound f c a in
    let y = read-sound g s b in
    let n = run-few c s e r x.0 y.0 x.1 y.1 j in
    let l = stuck-length c (alphabet c s) e r in
    let t = followed-run c s r 0 j.0.0.node j.0.0.leads in
    omega (arith, n, rw t at l)

pub printed_few : (f g w : List ℕ) → Prints f g w → length w ≤ 327680
unfolding bytes
printed_few f g w (client-refused x n e) = omega (arith, ap length e, word-length (bytes "client") (row_number x.reason) x.place)
printed_few f g w (server-refused a x n e) = omega (arith, ap length e, word-length (bytes "server") (row_number x.reason) x.place)
printed_few f g w (both-judged c s a b j h e) = omega (arith, ap length e, judged-few f g c s a b j h)

pub enough-report : (f g out : List ℕ) (r : ℕ) (left : List ℕ) → 327680 ≤ length out → Texts f g out r left → refusal_in r ≡ 12 → ⊥
enough-report f g out r left h t e =
    let l = printed_few f g t.reports.text t.reports.prints in
    let n : r ≡ length t.reports.text =
    t.number ∙ ap reported_number t.reports.told.says ∙ rw (le-leb (length t.reports.text) (length out) (omega arith)) in
    omega (arith, n, l, e)
