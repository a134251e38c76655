-- What a host takes from an answer, by the functions of include/tyttmose.h, is what was answered.
use Rattle.std.specs.Prelude.{◌≡◌, ℕ, ◌/◌, ◌%◌, ◌<◌, Ok}
use Rattle.std.proofs.Common.{◌∙◌, ap, arith}
use Rattle.behaviour.specs.declared.Refusal.{Refusal}
use Rattle.behaviour.specs.Refusals.{row_number}
use Rattle.verdict.specs.declared.Judgement.TheVariants as verdict
use Rattle.session.specs.declared.Session.{Session}
use Rattle.packing.specs.BackStand.{Small, stand-back, packed-below}
use Rattle.packing.specs.Numbers.{packed_stand}
use Rattle.host.specs.Numbers.{refused_number, verdict_number, session_of, session_number}

-- tyttmose_refusal: 0 if granted
abbrev pub refusal_in : ℕ → ℕ
refusal_in a = a / 4294967296

-- tyttmose_value, and of a refusal tyttmose_place, of a session call tyttmose_session
abbrev pub value_in : ℕ → ℕ
value_in a = a % 4294967296

-- tyttmose_cause and tyttmose_count, of a verdict
abbrev pub cause_in : ℕ → ℕ
cause_in a = a / 65536 % 65536

abbrev pub count_in : ℕ → ℕ
count_in a = a % 65536

-- each of a value with the widths that the code has: places, counts and lengths of 16 bits, sessions of 32
pub refused-back : (f : Refusal) → f.place < 65536 → (refusal_in (refused_number f) ≡ row_number f.reason) × (value_in (refused_number f) ≡ f.place)
refused-back f h = (omega arith, omega arith)

pub granted-back : (n : ℕ) → n < 4294967296 → (refusal_in n ≡ 0) × (value_in n ≡ n)
granted-back n h = (omega arith, omega arith)

pub compliant-back : (k : ℕ) → k < 65536 → (refusal_in (verdict_number (Ok (verdict.Compliant k))) ≡ 0) × (cause_in (verdict_number (Ok (verdict.Compliant k))) ≡ 0) × (count_in (verdict_number (Ok (verdict.Compliant k))) ≡ k)
compliant-back k h = (omega arith, omega arith, omega arith)

pub stuck_back : (e n : ℕ) → e < 256 → n < 65536 → (refusal_in (verdict_number (Ok (verdict.Stuck e n))) ≡ 0) × (cause_in (verdict_number (Ok (verdict.Stuck e n))) ≡ e) × (count_in (verdict_number (Ok (verdict.Stuck e n))) ≡ n)
stuck_back e n h k = (omega arith, omega arith, omega arith)

pub session-back : (z : Session) → Small z.stand → (refusal_in (session_number (Ok z)) ≡ 0) × (session_of (value_in (session_number (Ok z))) ≡ z)
session-back z h =
    let g = granted-back (packed_stand z.stand) (packed-below z.stand h) in
    (g.0, ap session_of g.1 ∙ rw (stand-back z.stand h))
