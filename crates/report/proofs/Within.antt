-- The bytes that `report` counts are bytes of the buffer.
use Rattle.std.specs.Prelude.{◌≡◌, Bool, true, false, List, ◌++◌, ℕ, ◌≤◌, leb, length, take, drop, Ok, Err}
use Rattle.std.proofs.Common.{sym, ◌∙◌, ap, arith, length-append, length-take-le}
use Rattle.names.specs.If.{if}
use Rattle.writer.specs.Written.{too_long}
use Rattle.report.specs.Said.{Reported}
use Rattle.report.specs.Reports.{Tells, Reports}

told-within : (text out e : List ℕ) (r : Reported) (n : ℕ) → Tells text out r e → r ≡ Ok n → n ≤ length e
told-within text out e r n t q = go (leb (length text) (length out)) (sym q ∙ t.says) t.leaves
  where
    go : (b : Bool) → Ok n ≡ if b (Ok (length text)) (Err too_long) → e ≡ if b (text ++ drop (length text) out) out → n ≤ length e
    go true p l = let m : n ≡ length text = cc in omega (arith, ap length l, length-append text (drop (length text) out))
    go false p l = absurd (let z : ◌≡◌ {A = ℕ} 0 1 = cc in omega arith)

-- what `&e[..n]` asks
pub within : {f g out e : List ℕ} {r : Reported} {n : ℕ} → Reports f g out r e → r ≡ Ok n → (n ≤ length e) × (n ≡ length (take n e))
within {out = out} {e = e} {r = r} {n = n} h q = let w = told-within h.text out e r n h.told q in (w, sym (length-take-le n e w))
