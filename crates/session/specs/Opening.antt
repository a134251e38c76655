-- What an opening answers, by what the pair is judged to be.
use Rattle.std.specs.Prelude.{◌≡◌, List, ◌⊎◌, ℕ, eqb, Err, Ok}
use Rattle.names.specs.If.{if}
use Rattle.behaviour.specs.declared.Reason.TheVariants as reason
use Rattle.behaviour.specs.declared.Behaviour.{Behaviour}
use Rattle.behaviour.specs.declared.Refusal.{Refusal}
use Rattle.behaviour.specs.Refusals.{row_number, refusal}
use Rattle.stands.specs.Stands.{start}
use Rattle.stands.specs.Judgement.{compliant, stuck, Judged}
use Rattle.verdict.specs.Answer.{BothSound, Unsound}
use Rattle.session.specs.declared.Session.{Session}
use Rattle.session.specs.Said.{Answer}

-- "Opening hands back the start (both at state 0, both return points none)"
abbrev pub opened : Session
opened = record { stand = start }

-- a verdict's refusal, to an opening: the run itself is not asked for, so one that is longer than the lent buffer is a stuck pair's
abbrev pub not_opened : Refusal → Refusal
not_opened f = if (eqb (row_number f.reason) 12) (refusal reason.NotCompliant 0) f

-- on a compliant pair
pub record Begins (c s : Behaviour) (z : Session) : Type 0 where
  pub sounds : BothSound c s
  pub stands : ℕ
  pub judged : Judged c s (compliant stands)
  pub begins : z ≡ opened

-- 14 "session asked for on a pair that isn't compliant"
pub record NotCompliant (c s : Behaviour) (f : Refusal) : Type 0 where
  pub is : f ≡ refusal reason.NotCompliant 0
  pub sounds : BothSound c s
  pub cause : ℕ
  pub steps : List ℕ
  pub judged : Judged c s (stuck cause steps)

-- 13 "a behaviour value that no accepted file gives" comes first
unfoldable pub Opens : Behaviour → Behaviour → Answer → Type 0
Opens c s (Ok z) = Begins c s z
Opens c s (Err f) = Unsound c s f ⊎ NotCompliant c s f
