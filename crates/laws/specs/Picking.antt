-- The laws of a loop that looks, place by place, for the first message that passes a test.
use Rattle.std.specs.Prelude.{◌≡◌, List, Bool, true, false, ℕ, ◌+◌, ◌-◌, ◌<◌, ◌≤◌, length, get_or, drop, take}
use Rattle.std.proofs.Common.{◌∙◌}
use native.Mathlib.Omega.{arith}
use Rattle.behaviour.specs.Limits.{most_lines}
use Rattle.behaviour.specs.declared.Message.{Message}
use Rattle.behaviour.specs.Pick.{pick, unused, next-used}

-- what is left to find at place i is what there was to find
abbrev pub Seen : {A : Type 0} → (Message → Bool) → (Message → A) → A → ℕ → List Message → ℕ → Type 0
Seen t v d count a i = (pick t v d (take count a) ≡ pick t v d (take (count - i) (drop i a))) × (count ≤ most_lines) × (length a ≡ most_lines)

module _ {A : Type 0} (t : Message → Bool) (v : Message → A) (d : A) (count : ℕ) (a : List Message) where
  pub pick-start : count ≤ most_lines → length a ≡ most_lines → Seen t v d count a 0
  pick-start h l = let e : count - 0 ≡ count = omega arith in (rw e, h, l)

  module _ (i : ℕ) (s : Seen t v d count a i) where
    pub pick_end : count ≤ i → d ≡ pick t v d (take count a)
    unfolding pick
    pick_end h = let e : count - i ≡ 0 = omega arith in rw (s.0, e)

    pub pick_yes : i < count → t (get_or a i unused) ≡ true → v (get_or a i unused) ≡ pick t v d (take count a)
    unfolding pick
    pick_yes h e = rw (s.0, next-used count a i h (omega (arith, s.1, s.2)), e)

    pub pick_more : i < count → t (get_or a i unused) ≡ false → Seen t v d count a (i + 1)
    unfolding pick
    pick_more h e = (s.0 ∙ rw (next-used count a i h (omega (arith, s.1, s.2)), e), s.1, s.2)
