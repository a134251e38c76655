-- Two results that are allowed for one input are equal, of functions whose statement is no equation and whose crate does not say so.
use Rattle.std.specs.Prelude.{◌≡◌, List, ℕ, ◌<◌, ◌≤◌, length, take, replicate}
use Rattle.std.proofs.Common.{sym, ap, ◌∙◌, arith, length-take-le}
use Rattle.std.proofs.Math.Decide.{dec_lt}
use Rattle.std.proofs.lemmas.List.{length-replicate}
use Rattle.behaviour.specs.declared.Message.{Message}
use Rattle.behaviour.specs.Limits.{most_lines}
use Rattle.behaviour.specs.Pick.{nil}
use Rattle.ranks.specs.Rising.{Lower}

-- of behaviour::used: r is a number of places that takes the same of every value's messages as its count
abbrev Uses : ℕ → ℕ → Type 0
Uses count r = (a : List Message) → length a ≡ most_lines → take r a ≡ take count a

pub used_one : (count r q : ℕ) → r ≤ most_lines → q ≤ most_lines → Uses count r → Uses count q → r ≡ q
used_one count r q h k a b =
    let l = length-replicate {A = Message} most_lines nil in
    let m = replicate most_lines nil in
    sym (length-take-le r m (omega arith)) ∙ ap length (a m l ∙ sym (b m l)) ∙ length-take-le q m (omega arith)

-- of ranks::find
pub find_one : (l : List ℕ) (count n r q : ℕ) → Lower l count n r → Lower l count n q → r ≡ q
find_one l count n r q a b = go (dec_lt r q) (dec_lt q r)
  where
    not-less : (i j : ℕ) → Lower l count n i → Lower l count n j → i < j → ⊥
    not-less i j x y h = omega (arith, y.less i h, x.more i (omega arith) (omega (arith, y.most)))

    go : Dec (r < q) → Dec (q < r) → r ≡ q
    go (yes h) _ = absurd (not-less r q a b h)
    go (no h) (yes k) = absurd (not-less q r b a k)
    go (no h) (no k) = omega arith
