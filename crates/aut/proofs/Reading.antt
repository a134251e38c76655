-- The definition `lines`, by what the code finds at each line, and what a line that meets no refusal keeps.
use Rattle.std.proofs.Common.{◌≡◌, refl, Ok, Err, List, [], ◌∷◌, ℕ, zero, suc, ◌+◌, ◌-◌, ◌<◌, ◌≤◌, length, arith}
use Rattle.std.proofs.Math.Numerals.{sub-one}
use Rattle.tokens.specs.Parse.{got, off}
use Rattle.tokens.specs.Lines.{line}
use Rattle.tokens.specs.declared.Label.{Label}
use Rattle.tokens.specs.declared.Label.TheVariants.{Mark, Take, Send, Other}
use Rattle.tokens.specs.declared.Line.{Line}
use Rattle.behaviour.specs.declared.Reason.{Reason}
use Rattle.behaviour.specs.declared.Reason.TheVariants as reason
use Rattle.behaviour.specs.declared.Behaviour.{Behaviour}
use Rattle.aut.specs.Adding.{add, add_label, check}
use Rattle.aut.specs.File.{refuse, finish, lines}

module _ (t p : ℕ) (b : Behaviour) (s : List ℕ) where
  pub lines-short : 0 < t → line s ≡ off → lines t p b s ≡ refuse reason.LineShape p
  unfolding lines
  lines-short h e = go t h
    where
      go : (u : ℕ) → 0 < u → lines u p b s ≡ refuse reason.LineShape p
      go zero k = absurd (omega arith)
      go (suc u) k = rw e

  pub lines-bad : (l : Line) (r : List ℕ) (x : Reason) → 0 < t → line s ≡ got l r → check b l ≡ Err x → lines t p b s ≡ refuse x p
  unfolding lines
  lines-bad l r x h e n = go t h
    where
      go : (u : ℕ) → 0 < u → lines u p b s ≡ refuse x p
      go zero k = absurd (omega arith)
      go (suc u) k = rw (e, n)

  pub lines_more : (l : Line) (r : List ℕ) → 0 < t → line s ≡ got l r → check b l ≡ Ok tt → lines t p b s ≡ lines (t - 1) (p + 1) (add b l) r
  unfolding lines
  lines_more l r h e n = go t h
    where
      go : (u : ℕ) → 0 < u → lines u p b s ≡ lines (u - 1) (p + 1) (add b l) r
      go zero k = absurd (omega arith)
      go (suc u) k = rw (e, n, sub-one)

  pub lines_extra : t ≡ 0 → 0 < length s → lines t p b s ≡ refuse reason.LineShape p
  unfolding lines
  lines_extra e h = rw e (go s h)
    where
      go : (s : List ℕ) → 0 < length s → lines 0 p b s ≡ refuse reason.LineShape p
      go [] k = absurd (omega arith)
      go (c ∷ s) k = refl

  pub lines-done : t ≡ 0 → length s ≡ 0 → lines t p b s ≡ finish b
  unfolding lines
  lines-done e h = rw e (go s h)
    where
      go : (s : List ℕ) → length s ≡ 0 → lines 0 p b s ≡ finish b
      go [] k = refl
      go (c ∷ s) k = absurd (omega arith)

label-keeps : (b : Behaviour) (f g : ℕ) (l : Label) → ((add_label b f g l).states ≡ b.states) × ((add_label b f g l).count ≤ b.count + 1)
label-keeps b f g Mark = (refl, omega arith)
label-keeps b f g (Take n) = (refl, omega arith)
label-keeps b f g (Send n) = (refl, omega arith)
label-keeps b f g Other = (refl, omega arith)

pub add-keeps : (b : Behaviour) (l : Line) → ((add b l).states ≡ b.states) × ((add b l).count ≤ b.count + 1)
unfolding add
add-keeps b l = label-keeps b l.from l.to l.label
