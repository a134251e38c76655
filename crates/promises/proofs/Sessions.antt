-- A message or rollback call is one of the cases, and is refused by the table.
use Rattle.std.specs.Prelude.{◌≡◌, refl, Bool, true, false, List, ◌↔◌, ℕ, Option, None, Some, Ok, Err}
use Rattle.std.proofs.Common.{sym, subst, ◌∙◌, inl, inr}
use Rattle.names.specs.If.{if}
use Rattle.behaviour.specs.declared.Reason.{Reason}
use Rattle.behaviour.specs.declared.Reason.TheVariants as reason
use Rattle.behaviour.specs.declared.Behaviour.{Behaviour}
use Rattle.behaviour.specs.declared.Refusal.{Refusal}
use Rattle.behaviour.specs.Refusals.{row_number}
use Rattle.behaviour.specs.Sound.{sound}
use Rattle.behaviour.specs.SoundLaws.{Sized}
use Rattle.roundtrip.specs.Theorems.{Given}
use Rattle.stands.specs.declared.Stand.{Stand}
use Rattle.compliance.specs.SoundStand.{Sound}
use Rattle.steps.specs.Tests.{is_stand, stand-sound, sound-stand}
use Rattle.verdict.specs.Answer.{BothSound}
use Rattle.stands.specs.Stands as rules
use Rattle.session.specs.declared.Session.{Session}
use Rattle.session.specs.Said.{Answer}
use Rattle.session.specs.Answers.{refused, fault, checked, stepped, named, messaged, rolled_back}
use Rattle.promises.specs.Table
use Rattle.promises.specs.Table.{InTable}
use Rattle.promises.specs.Values.{unlike, one_unsound, both-sound}
use Rattle.promises.specs.Sessions.{Called, unsound, no-stand, off, step, other, granted-not}

pub called : (c s : Behaviour) (p : Stand) (k : Reason) (o : Option Stand) → Called c s p k o (checked (fault c s p) (stepped k o))
unfolding fault
called c s p k o = go (sound c) (sound s) (is_stand c s p) refl refl refl
  where
    by-step : BothSound c s → Sound c s p → (q : Option Stand) → o ≡ q → Called c s p k o (stepped k q)
    by-step b h None e = off b h e
    by-step b h (Some q) e = step b h q e

    go : (t u v : Bool) → sound c ≡ t → sound s ≡ u → is_stand c s p ≡ v → Called c s p k o (checked (if t (if u (if v (Ok tt) (Err reason.NoStand)) (Err reason.NoFileGivesIt)) (Err reason.NoFileGivesIt)) (stepped k o))
    go true true true e f h = by-step (record { client = e; server = f }) (stand-sound c s p h) o refl
    go true true false e f h = no-stand (record { client = e; server = f }) (λ n. unlike (sym (sound-stand c s p n) ∙ h))
    go true false v e f h = unsound (inr f)
    go false u v e f h = unsound (inl e)

pub call-refused : {c s : Behaviour} {p : Stand} {k : Reason} {o : Option Stand} {f : Refusal} → Table.Table (row_number k) 0 → Called c s p k o (Err f) → InTable f
call-refused t (unsound e) = Table.no-file_gives_it
call-refused t (no-stand b n) = Table.no-stand
call-refused t (off b h e) = t

pub call_13 : {c s : Behaviour} {p : Stand} {k : Reason} {o : Option Stand} {a : Answer} → (k ≡ reason.NoFileGivesIt → ⊥) → Sized c → Sized s → Called c s p k o a
    → (a ≡ refused reason.NoFileGivesIt) ↔ (Given c × Given s → ⊥)
call_13 {c = c} {s = s} d y z (unsound e) = (λ _. one_unsound c s e, λ _. refl)
call_13 {c = c} {s = s} d y z (no-stand b n) = (λ i. other reason.NoStand reason.NoFileGivesIt i (λ j. cc), λ m. absurd (m (both-sound c s y z b)))
call_13 {c = c} {s = s} {k = k} d y z (off b h e) = (λ i. other k reason.NoFileGivesIt i d, λ m. absurd (m (both-sound c s y z b)))
call_13 {c = c} {s = s} d y z (step b h q e) = (granted-not, λ m. absurd (m (both-sound c s y z b)))

pub call_15 : {c s : Behaviour} {p : Stand} {k : Reason} {o : Option Stand} {a : Answer} → (k ≡ reason.NoStand → ⊥) → Given c → Given s → Called c s p k o a
    → (a ≡ refused reason.NoStand) ↔ (Sound c s p → ⊥)
call_15 {c = c} {s = s} d g h (unsound e) = absurd (one_unsound c s e (g, h))
call_15 d g h (no-stand b n) = (λ _. n, λ _. refl)
call_15 {k = k} d g h (off b o e) = (λ i. other k reason.NoStand i d, λ m. absurd (m o))
call_15 d g h (step b o q e) = (granted-not, λ m. absurd (m o))

-- a call that is refused is refused by the table
module _ (c s : Behaviour) (z : Session) where
  pub message-refused : (name : List ℕ) (f : Refusal) → messaged c s z name ≡ Err f → InTable f
  unfolding messaged
  message-refused name f e =
      let o = rules.said c s z.stand (named name) in
      call-refused Table.message-not-possible (subst (Called c s z.stand reason.MessageNotPossible o) e (called c s z.stand reason.MessageNotPossible o))

  pub rollback-refused : (f : Refusal) → rolled_back c s z ≡ Err f → InTable f
  unfolding rolled_back
  rollback-refused f e =
      let o = rules.rollback z.stand in
      call-refused Table.rollback-not-possible (subst (Called c s z.stand reason.RollbackNotPossible o) e (called c s z.stand reason.RollbackNotPossible o))
