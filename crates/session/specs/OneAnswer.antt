-- Two answers that the statements allow for one call are equal.
use Rattle.std.specs.Prelude.{◌≡◌, false, List, ◌⊎◌, ℕ, Ok, Err}
use Rattle.std.proofs.Common.{sym, ◌∙◌, ap, inl, inr, arith}
use Rattle.behaviour.specs.declared.Behaviour.{Behaviour}
use Rattle.behaviour.specs.Sound.{sound}
use Rattle.compliance.specs.OneJudgement.{unlike}
use Rattle.verdict.specs.Answer.{BothSound}
use Rattle.session.specs.declared.Session.{Session}
use Rattle.session.specs.Said.{Answer}
use Rattle.session.specs.Answers.{messaged, rolled_back}
use Rattle.session.specs.Opening.{Opens}

clash : {P : Type 0} (c s : Behaviour) → BothSound c s → (sound c ≡ false) ⊎ (sound s ≡ false) → P
clash c s b (inl e) = absurd (let z : ◌≡◌ {A = ℕ} 0 1 = cc b.client in omega arith)
clash c s b (inr e) = absurd (let z : ◌≡◌ {A = ℕ} 0 1 = cc b.server in omega arith)

-- of opening: by the one judgement of a pair
pub opens_one : (c s : Behaviour) (a b : Answer) → Opens c s a → Opens c s b → a ≡ b
unfolding Opens
opens_one c s (Ok y) (Ok z) p q = ap Ok (p.begins ∙ sym q.begins)
opens_one c s (Ok y) (Err f) p (inl u) = clash c s p.sounds u.which
opens_one c s (Ok y) (Err f) p (inr n) = unlike c s p.stands n.cause n.steps p.judged n.judged
opens_one c s (Err f) (Ok z) (inl u) q = clash c s q.sounds u.which
opens_one c s (Err f) (Ok z) (inr n) q = unlike c s q.stands n.cause n.steps q.judged n.judged
opens_one c s (Err f) (Err g) (inl u) (inl v) = ap Err (u.is ∙ sym v.is)
opens_one c s (Err f) (Err g) (inl u) (inr n) = clash c s n.sounds u.which
opens_one c s (Err f) (Err g) (inr n) (inl v) = clash c s n.sounds v.which
opens_one c s (Err f) (Err g) (inr n) (inr m) = ap Err (n.is ∙ sym m.is)

-- of a message or rollback call: the statement names the answer
module _ (c s : Behaviour) (z : Session) (a b : Answer) where
  pub message_one : (name : List ℕ) → a ≡ messaged c s z name → b ≡ messaged c s z name → a ≡ b
  message_one name p q = p ∙ sym q

  pub rollback_one : a ≡ rolled_back c s z → b ≡ rolled_back c s z → a ≡ b
  rollback_one p q = p ∙ sym q
