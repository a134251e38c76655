-- The earliest run to a bad node passes no node twice: it is shorter than the number of nodes.
use mathlib.Core.Path.{◌≡◌, refl, sym, ◌∙◌, ap}
use mathlib.Core.List.{List, [], ◌∷◌, ◌++◌}
use mathlib.Core.Logic.{inl}
use Prim.Native.Nat.{ℕ, suc, ◌≤◌, ◌<◌}
use native.Mathlib.Omega.{arith}
use native.Mathlib.Decide.{dec_lt}
use lib.ListN.{length, take, drop, length-append, length-drop, take-append-drop}
use lib.Seq.{length-take-le}
use Rattle.std.specs.Prelude.{Option, None, Some}
use Rattle.runs.specs.System.{System, from, after, Earlier, ToBad}
use Rattle.runs.specs.Rank.{opened}
use Rattle.runs.specs.Unique.{pigeon}

from-none : (S : System) (w : List ℕ) → from S None w ≡ None
unfolding from
from-none S [] = refl
from-none S (x ∷ w) = refl

from-append : (S : System) (o : Option S.Node) (w v : List ℕ) → from S o (w ++ v) ≡ from S (from S o w) v
unfolding from
from-append S o [] v = refl
from-append S None (x ∷ w) v = sym (from-none S v)
from-append S (Some n) (x ∷ w) v = from-append S (S.next n x) w v

module _ (S : System) (r : List ℕ) (bad : ToBad S r) (first : (w : List ℕ) → ToBad S w → Earlier w r → ⊥) where
  rest : (i : ℕ) → from S (after S (take i r)) (drop i r) ≡ Some bad.node
  rest i = sym (from-append S (Some S.start) (take i r) (drop i r)) ∙ ap (after S) (take-append-drop i r) ∙ bad.leads

  -- where the first i steps lead
  passed : (i : ℕ) → (n : S.Node) × (after S (take i r) ≡ Some n)
  passed i = opened S (after S (take i r)) (drop i r) bad.node (rest i)

  -- what lies between two visits could be left out
  no_return : (i j : ℕ) → i < j → j ≤ length r → (passed i).0 ≡ (passed j).0 → ⊥
  unfolding Earlier
  no_return i j h k e = first w (record { node = bad.node; leads = leads; bad = bad.bad }) (inl short)
    where
      w : List ℕ
      w = take i r ++ drop j r

      leads : after S w ≡ Some bad.node
      leads =
          from-append S (Some S.start) (take i r) (drop j r)
          ∙ ap (λ (o : Option S.Node). from S o (drop j r)) ((passed i).1 ∙ ap Some e ∙ sym (passed j).1)
          ∙ rest j

      short : length w < length r
      short = let a : i ≤ length r = omega arith in rw (length-append (take i r) (drop j r), length-take-le i r a, length-drop j r) (omega arith)

  -- nodes that a run reaches have different numbers below n
  module _ (n : ℕ) (number : S.Node → ℕ) (below : (w : List ℕ) (m : S.Node) → after S w ≡ Some m → number m < n)
      (differ : (v w : List ℕ) (a b : S.Node) → after S v ≡ Some a → after S w ≡ Some b → number a ≡ number b → a ≡ b) where
    pub shorter : length r < n
    shorter = pigeon (suc (length r)) n (λ i _. number (passed i).0) (λ i _. below (take i r) (passed i).0 (passed i).1) once
      where
        same : (i j : ℕ) → number (passed i).0 ≡ number (passed j).0 → (passed i).0 ≡ (passed j).0
        same i j e = differ (take i r) (take j r) (passed i).0 (passed j).0 (passed i).1 (passed j).1 e

        once : (i j : ℕ) → i < suc (length r) → j < suc (length r) → number (passed i).0 ≡ number (passed j).0 → i ≡ j
        once i j a b e = go (dec_lt i j) (dec_lt j i)
          where
            go : Dec (i < j) → Dec (j < i) → i ≡ j
            go (yes h) _ = absurd (no_return i j h (omega arith) (same i j e))
            go (no h) (yes k) = absurd (no_return j i k (omega arith) (sym (same i j e)))
            go (no h) (no k) = omega arith
