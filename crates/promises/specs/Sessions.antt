-- Session calls: which refusal each gives, and exactly when.
use Rattle.std.specs.Prelude.{◌≡◌, refl, false, ◌⊎◌, ◌↔◌, ℕ, Option, None, Some, Ok, Err}
use Rattle.std.proofs.Common.{sym, subst, ◌∙◌, inl, inr, arith}
use Rattle.std.proofs.Math.Path.{ap}
use Rattle.behaviour.specs.declared.Reason.{Reason}
use Rattle.behaviour.specs.declared.Reason.TheVariants as reason
use Rattle.behaviour.specs.declared.Behaviour.{Behaviour}
use Rattle.behaviour.specs.declared.Refusal.{Refusal}
use Rattle.behaviour.specs.Refusals.{refusal}
use Rattle.behaviour.specs.Sound.{sound}
use Rattle.behaviour.specs.SoundLaws.{Sized, parts}
use Rattle.roundtrip.specs.Theorems.{Given}
use Rattle.stands.specs.declared.Stand.{Stand}
use Rattle.compliance.specs.Compliance.{Compliant}
use Rattle.compliance.specs.Labels.{Few, few}
use Rattle.compliance.proofs.NoBadRun.{compliant-is, stuck-is}
use Rattle.compliance.specs.SoundStand.{Sound}
use Rattle.stands.specs.Judgement.{Judged}
use Rattle.verdict.specs.Answer.{BothSound}
use Rattle.session.specs.declared.Session.{Session}
use Rattle.session.specs.Said.{Answer}
use Rattle.session.specs.Answers.{refused}
use Rattle.session.specs.Opening.{Opens}
use Rattle.lines.specs.Lent.{Kept, kept_of, OpensInto}
use Rattle.promises.specs.Table
use Rattle.promises.specs.Table.{InTable}
use Rattle.promises.specs.Values.{one_unsound, both-sound}

-- the names of two values that files give are few enough for the labels
pub few-names : (c s : Behaviour) → BothSound c s → Few c s
few-names c s b = few c s (omega (arith, (parts c b.client).most-lines, (parts s b.server).most-lines))

-- the cases of a message or rollback call, whose step is o and whose refusal k where there is none
pub data Called (c s : Behaviour) (p : Stand) (k : Reason) (o : Option Stand) : Answer → Type 0 where
  unsound : (sound c ≡ false) ⊎ (sound s ≡ false) → Called c s p k o (refused reason.NoFileGivesIt)
  no-stand : BothSound c s → (Sound c s p → ⊥) → Called c s p k o (refused reason.NoStand)
  off : BothSound c s → Sound c s p → o ≡ None → Called c s p k o (refused k)
  step : BothSound c s → Sound c s p → (q : Stand) → o ≡ Some q → Called c s p k o (Ok (record { stand = q }))

-- two refusals of different reasons
pub other : {A : Type 0} (m n : Reason) → refused m ≡ refused n → (m ≡ n → ⊥) → A
other m n e d = absurd (d (let i : refusal m 0 ≡ refusal n 0 = cc in ap (λ (f : Refusal). f.reason) i))

pub granted-not {ℓ} : {A : Type ℓ} {q : Stand} {f : Refusal} → ◌≡◌ {A = Answer} (Ok (record { stand = q })) (Err f) → A
granted-not e = absurd (let z : ◌≡◌ {A = ℕ} 0 1 = cc in omega arith)

pub call-off : {c s : Behaviour} {p : Stand} {k : Reason} {o : Option Stand} {a : Answer} → Given c → Given s → Sound c s p → Called c s p k o a
    → (a ≡ refused k) ↔ (o ≡ None)
call-off {c = c} {s = s} g h w (unsound e) = absurd (one_unsound c s e (g, h))
call-off g h w (no-stand b n) = absurd (n w)
call-off g h w (off b o e) = (λ _. e, λ _. refl)
call-off g h w (step b o q e) = (granted-not, λ i. absurd (let z : ◌≡◌ {A = ℕ} 0 1 = cc (e, i) in omega arith))

-- what a lent record holds after a call that is refused
pub kept-refused : (line y : Session) (a : Answer) (f : Refusal) → kept_of line a ≡ record { session = y; outcome = Err f } → (a ≡ Err f) × (y ≡ line)
kept-refused line y (Ok z) f e = absurd (let i = ap (λ (k : Kept). k.outcome) e in let n : ◌≡◌ {A = ℕ} 0 1 = cc in omega arith)
kept-refused line y (Err g) f e =
    let i = ap (λ (k : Kept). k.outcome) e in
    let j : g ≡ f = cc in
    (ap Err j, sym (ap (λ (k : Kept). k.session) e))

-- an opening
module _ (c s : Behaviour) where
  pub open_refused : (f : Refusal) → Opens c s (Err f) → InTable f
  unfolding Opens
  open_refused f (inl u) = rw u.is Table.no-file_gives_it
  open_refused f (inr n) = rw n.is Table.not-compliant

  pub open_13 : (a : Answer) → Sized c → Sized s → Opens c s a → (a ≡ refused reason.NoFileGivesIt) ↔ (Given c × Given s → ⊥)
  unfolding Opens
  open_13 (Ok z) y w b = (granted-not, λ m. absurd (m (both-sound c s y w b.sounds)))
  open_13 (Err f) y w (inl u) = (λ _. one_unsound c s u.which, λ _. ap Err u.is)
  open_13 (Err f) y w (inr n) = (λ i. other reason.NotCompliant reason.NoFileGivesIt (sym (ap Err n.is) ∙ i) (λ j. cc), λ m. absurd (m (both-sound c s y w n.sounds)))

  pub open_14 : (a : Answer) → Given c → Given s → Opens c s a → (a ≡ refused reason.NotCompliant) ↔ (Compliant c s → ⊥)
  unfolding Opens Judged
  open_14 (Ok z) g h b = (granted-not, λ m. absurd (m (compliant-is c s (few-names c s b.sounds) b.stands b.judged)))
  open_14 (Err f) g h (inl u) = absurd (one_unsound c s u.which (g, h))
  open_14 (Err f) g h (inr n) = (λ _. stuck-is c s n.steps n.judged.0, λ _. ap Err n.is)

  pub lent_open : (line after : Session) (f : Refusal) → OpensInto c s line (record { session = after; outcome = Err f }) → InTable f × (after ≡ line)
  lent_open line after f h =
      let k = kept-refused line after h.answer f (sym h.kept) in
      (open_refused f (subst (Opens c s) k.0 h.opens), k.1)
