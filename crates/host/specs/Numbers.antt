-- An answer as one number: the refusal number × 2^32 + the place; or, with number 0, what was granted.
use Rattle.std.specs.Prelude.{ℕ, ◌+◌, ◌*◌, Result, Ok, Err}
use Rattle.behaviour.specs.declared.Refusal.{Refusal}
use Rattle.behaviour.specs.Refusals.{row_number}
use Rattle.verdict.specs.Said.{Verdict}
use Rattle.verdict.specs.declared.Judgement.{Judgement}
use Rattle.verdict.specs.declared.Judgement.TheVariants as verdict
use Rattle.writer.specs.Said.{Written}
use Rattle.report.specs.Said.{Reported}
use Rattle.session.specs.declared.Session.{Session}
use Rattle.session.specs.Said.{Answer}
use Rattle.packing.specs.Numbers.{packed_stand, unpacked_stand}

abbrev pub refused_number : Refusal → ℕ
refused_number f = row_number f.reason * 4294967296 + f.place

-- what is granted, by its own number, or the refusal
abbrev pub number_of : {A : Type 0} → (A → ℕ) → Result A Refusal → ℕ
number_of granted (Ok x) = granted x
number_of granted (Err f) = refused_number f

-- granted: the text's length
abbrev pub written_number : Written → ℕ
written_number = number_of (λ n. n)

-- the cause × 2^16 + the run's length, or with cause 0 the number of stands
abbrev pub judgement_number : Judgement → ℕ
judgement_number (verdict.Compliant k) = k
judgement_number (verdict.Stuck e n) = e * 65536 + n

-- granted: what is judged
abbrev pub verdict_number : Verdict → ℕ
verdict_number = number_of judgement_number

-- granted: the text's length
abbrev pub reported_number : Reported → ℕ
reported_number = number_of (λ n. n)

-- a session is the number of its stand
abbrev pub session_of : ℕ → Session
session_of n = record { stand = unpacked_stand n }

-- granted: the next session
abbrev pub session_number : Answer → ℕ
session_number = number_of (λ z. packed_stand z.stand)
