-- Sorted insertion as the code does it: place by place, with one message in the hand.
use Rattle.std.proofs.Common.{◌≡◌, sym, List, [], ◌∷◌, ◌++◌, ℕ, zero, true, false, ◌+◌, ◌-◌, ◌<◌, ◌≤◌, length, get_or, take, drop, set, drop_of_length-le, take_all, arith}
use Rattle.std.proofs.lemmas.List.{drop_more, append_assoc, set-append_right}
use native.Mathlib.Numerals.{add-one}
use lib.Seq.{take-suc, take-suc-set, drop-set-lt}
use Rattle.behaviour.specs.declared.Message.{Message}
use Rattle.behaviour.specs.Pick.{unused}
use Rattle.behaviour.specs.Sound.{before}
use Rattle.aut.specs.Adding.{insert}

-- the places of p before i, and then the message m put in among those from i on
abbrev pub carried : Message → List Message → ℕ → List Message
carried m p i = take i p ++ insert m (drop i p)

module _ (m : Message) (p : List Message) (i : ℕ) (h : i < length p) where
  pub insert_in : before m (get_or p i unused) ≡ true → carried m p i ≡ carried (get_or p i unused) (set p i m) (i + 1)
  unfolding insert
  insert_in e =
      let q : i < i + 1 = omega arith in
      rw (drop_more p i unused h, e, drop-set-lt (i + 1) p i m q, add-one i, take-suc-set p i m h)
      (sym (append_assoc (take i p) (m ∷ []) _))

  pub insert-by : before m (get_or p i unused) ≡ false → carried m p i ≡ carried m p (i + 1)
  unfolding insert
  insert-by e = rw (drop_more p i unused h, e, add-one i, take-suc p i unused h) (sym (append_assoc (take i p) (get_or p i unused ∷ []) _))

-- where no place is left, the message goes behind them
pub insert-end : (m : Message) (p a : List Message) (n i : ℕ) → n ≤ i → length p ≡ n → n < length a → carried m p i ++ drop (n + 1) a ≡ set (p ++ drop n a) n m
unfolding insert
insert-end m p a n i h e l =
    let z : n - n ≡ zero = omega arith in
    let f : length p ≤ i = omega arith in
    rw (drop_of_length-le p f, take_all i p f, drop_more a n unused l, set-append_right p (get_or a n unused ∷ drop (n + 1) a) n n m e (omega arith), z)
    (append_assoc p (m ∷ []) (drop (n + 1) a))
