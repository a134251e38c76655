-- A sham session that demand 3 shuts out: it does what one of 01's "Errors that look right" tells.
use Rattle.std.specs.Prelude.{◌≡◌, true, false, List, ℕ, Option}
use Rattle.std.proofs.Common.{sym, ◌∙◌, inl, inr, arith}
use Rattle.history.specs.Calls.{message, opening}
use Rattle.history.specs.Side.{Side, Can, Possible}
use Rattle.history.specs.Demand.{Seen, Demand}

unlike : true ≡ false → ⊥
unlike e = let z : ◌≡◌ {A = ℕ} 0 1 = cc in omega arith

module _ {A B : Type 0} (named : List ℕ → Option ℕ) (C : Side A) (S : Side B) (w : Seen A B) (d : Demand named C S w) where
  -- "Letting a message through when the taker knows one of the sender's names and not all" (case d): the client sends k, which the server does not take
  pub one_name : (n : List ℕ) (k : ℕ) → C.sends C.start k ≡ true → S.takes S.start k ≡ false → ((m : ℕ) → S.sends S.start m ≡ false)
      → w.granted opening (message n) ≡ true → ⊥
  unfolding Can
  one_name n k sent lacked still g = let p = (d.message-granted opening n).0 g in go p.0 (rw (d.opened.0, d.opened.1) at p.2)
    where
      go : (m : ℕ) → Possible C C.start S S.start m → ⊥
      go m (inl q) = unlike (sym (q.1 k sent) ∙ lacked)
      go m (inr q) = unlike (sym q.0 ∙ still m)
