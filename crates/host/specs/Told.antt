-- What a host takes from a verdict's number, by the functions of include/tyttmose.h, is the verdict.
use Rattle.std.specs.Prelude.{◌≡◌, Bool, true, false, List, ◌⊎◌, ℕ, ◌≤◌, ◌<◌, ◌*◌, eqb, Option, Some, Err, Ok}
use Rattle.std.specs.Option.{option_map}
use Rattle.std.proofs.Common.{sym, ◌∙◌, ap, inl, inr, arith, ne_eqb}
use Rattle.std.proofs.Math.Path.{subst}
use Rattle.std.proofs.Math.Nat.{mul-le-mul}
use Rattle.names.specs.If.{if}
use Rattle.behaviour.specs.declared.Behaviour.{Behaviour}
use Rattle.behaviour.specs.Refusals.{refusal, reason_of}
use Rattle.behaviour.specs.SoundLaws.{Sized, parts, side-most}
use Rattle.runs.specs.System as runs
use Rattle.runs.specs.Unique.{pigeon}
use Rattle.stands.specs.declared.Stand.{Stand}
use Rattle.stands.specs.Stands.{empty, even, finished, possible, cause, pair}
use Rattle.stands.specs.Judgement.{compliant, stuck, Judged}
use Rattle.compliance.specs.SoundStand.{Sound}
use Rattle.sides.specs.Numbers.{size, number, stand, stand-number, number-below}
use Rattle.verdict.specs.Said.{Verdict}
use Rattle.verdict.specs.declared.Judgement.TheVariants as verdict
use Rattle.verdict.specs.Answer.{BothSound, Unsound, TooLong, Says}
use Rattle.compliance.specs.Kept.{ranged}
use Rattle.report.proofs.Ranged.{reached-sound}
use Rattle.report.proofs.Few.{run-few}
use Rattle.packing.specs.Value.{unpacked}
use Rattle.packing.specs.Back.{unpacked-sized}
use Rattle.host.specs.Numbers.{verdict_number}
use Rattle.host.specs.Calls.{Judges}
use Rattle.host.specs.Parts.{refusal_in, value_in, cause_in, count_in, compliant-back, stuck_back}

-- a verdict by its parts: refused, by the reason that has the number, compliant with a count, or stuck with a cause and a length
abbrev pub verdict_in : ℕ → Option Verdict
verdict_in r =
    if (eqb (refusal_in r) 0)
    (Some (Ok (if (eqb (cause_in r) 0) (verdict.Compliant (count_in r)) (verdict.Stuck (cause_in r) (count_in r)))))
    (option_map (λ k. Err (refusal k (value_in r))) (reason_of (refusal_in r)))

small-cause : (a b d : Bool) → if a (if b (if d 0 2) 1) 0 ≤ 2
small-cause true true true = omega arith
small-cause true true false = omega arith
small-cause true false d = omega arith
small-cause false b d = omega arith

module _ (c s : Behaviour) (k : Sized c) (l : Sized s) (sounds : BothSound c s) where
  held : (w : List ℕ) (p : Stand) → runs.after (pair c s) w ≡ Some p → Sound c s p
  held = reached-sound c s (ranged c k sounds.client) (ranged s l sounds.server)

  -- "There are at most 110 × 110 = 12,100 stands of a pair"
  pub stands-few : (n : ℕ) → Judged c s (compliant n) → n ≤ 12100
  unfolding Judged runs.IsVerdict
  stands-few n j = omega (arith, mul-le-mul (side-most c k (parts c sounds.client)) (side-most s l (parts s sounds.server)), few)
    where
      at : (i : ℕ) → i < n → Sound c s (j.0.these.node i)
      at i h = held (j.0.these.run i) (j.0.these.node i) (j.0.these.leads i h)

      same : (a b : ℕ) → a < n → b < n → number c s (j.0.these.node a) ≡ number c s (j.0.these.node b) → a ≡ b
      same a b h i e =
          j.0.these.once a b h i
          (sym (stand-number c s (j.0.these.node a) (at a h)) ∙ ap (stand c s) e ∙ stand-number c s (j.0.these.node b) (at b i))

      few : n ≤ size c * size s
      few = pigeon n (size c * size s) (λ i _. number c s (j.0.these.node i)) (λ i h. number-below c s (j.0.these.node i) (at i h)) same

  cause-most : (p : Stand) → cause c s p ≤ 2
  unfolding cause
  cause-most p = small-cause (empty (possible c s p.client p.server)) (finished c p.client.0) (even p)

  -- a cause is 1 or 2
  pub cause-told : (e : ℕ) (w : List ℕ) → Judged c s (stuck e w) → (0 < e) × (e ≤ 2)
  unfolding Judged runs.IsVerdict
  cause-told e w j =
      let b = j.0.0 in
      let f = j.1 b.node b.leads in
      (omega (arith, b.bad), subst (λ (x : ℕ). x ≤ 2) f (cause-most b.node))

-- a verdict of a pair is what its number tells
verdict-back : (c s : Behaviour) → Sized c → Sized s → (run left : List ℕ) (v : Verdict) → Says c s run v left → verdict_in (verdict_number v) ≡ Some v
unfolding Says reason_of
verdict-back c s k l run left (Ok (verdict.Compliant n)) p =
    let b = compliant-back n (omega (arith, stands-few c s k l p.sounds n p.judged)) in
    rw (b.0, b.1, b.2)
verdict-back c s k l run left (Ok (verdict.Stuck e n)) p =
    let h = cause-told c s k l p.sounds e p.steps p.judged in
    let f = run-few c s e p.steps p.sounds.client p.sounds.server k l p.judged in
    let b = stuck_back e n (omega (arith, h.1)) (omega (arith, f, p.long)) in
    let z : eqb e 0 ≡ false = ne_eqb e 0 (λ q. omega (arith, h.0)) in
    rw (b.0, b.1, b.2, z)
verdict-back c s k l run left (Err f) p = go p.why
  where
    go : Unsound c s f ⊎ TooLong c s run f → verdict_in (verdict_number (Err f)) ≡ Some (Err f)
    go (inl u) = rw u.is
    go (inr t) = rw t.is

-- THE THEOREM: so what the host takes from the answer is said of the pair and of the buffer
pub verdict-told : (c s run : List ℕ) (r : ℕ) (left : List ℕ) → Judges c s run r left
    → (v : Verdict) × (verdict_in r ≡ Some v) × Says (unpacked c) (unpacked s) run v left
verdict-told c s run r left j = (
  j.verdict,
  ap verdict_in j.number ∙ verdict-back (unpacked c) (unpacked s) (unpacked-sized c) (unpacked-sized s) run left j.verdict j.says,
  j.says,
)
