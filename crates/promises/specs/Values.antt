-- Calls on values: which refusal each gives, exactly when, and that it leaves lent memory as it was.
use Rattle.std.proofs.Math.Path.{◌≡◌, ap}
use Rattle.std.specs.Prelude.{refl, Bool, true, false, ◌&&◌, List, ◌++◌, ◌⊎◌, ◌↔◌, ℕ, ◌<◌, ◌≤◌, leb, drop, Err, Ok}
use Rattle.std.proofs.Common.{sym, ◌∙◌, inl, inr, arith, leb-true, leb-false}
use Rattle.std.proofs.Math.ListN.{length}
use Rattle.names.specs.If.{if}
use Rattle.behaviour.specs.declared.Reason.TheVariants as reason
use Rattle.behaviour.specs.declared.Behaviour.{Behaviour}
use Rattle.behaviour.specs.declared.Refusal.{Refusal}
use Rattle.behaviour.specs.Refusals.{row_number, refusal}
use Rattle.behaviour.specs.Sound.{sound}
use Rattle.behaviour.specs.SoundLaws.{Sized}
use Rattle.roundtrip.specs.Theorems.{Given, sound_given, given_sound}
use Rattle.writer.specs.Said.{Written}
use Rattle.writer.specs.Text.{text}
use Rattle.writer.specs.Written.{Writes}
use Rattle.stands.specs.Judgement.{compliant, stuck, Judged}
use Rattle.compliance.specs.OneJudgement.{judged_unique}
use Rattle.verdict.specs.Said.{Verdict}
use Rattle.verdict.specs.declared.Judgement.TheVariants as verdict
use Rattle.verdict.specs.Answer.{BothSound, Unsound, TooLong, Says}
use Rattle.report.specs.Said.{Reported}
use Rattle.report.specs.Output.{Prints}
use Rattle.report.specs.OneOutput.{one_output}
use Rattle.report.specs.Reports.{left, Tells, Reports}
use Rattle.promises.specs.Table.{InTable, no-file_gives_it, longer_than_lent}

pub unlike : {A : Type 0} → true ≡ false → A
unlike e = absurd (let z : ◌≡◌ {A = ℕ} 0 1 = cc in omega arith)

pub number : {f g : Refusal} → f ≡ g → row_number f.reason ≡ row_number g.reason
number e = ap (λ (f : Refusal). row_number f.reason) e

-- 13 is given exactly to "a behaviour value that no accepted file gives"
pub not_given : (b : Behaviour) → Sized b → (sound b ≡ false) ↔ (Given b → ⊥)
not_given b z = (λ e g. unlike (sym (given_sound b g) ∙ e), λ n. go (sound b) refl n)
  where
    go : (t : Bool) → sound b ≡ t → (Given b → ⊥) → t ≡ false
    go true e n = absurd (n (sound_given b z e))
    go false e n = refl

module _ (c s : Behaviour) where
  pub one_unsound : (sound c ≡ false) ⊎ (sound s ≡ false) → Given c × Given s → ⊥
  one_unsound (inl e) g = unlike (sym (given_sound c g.0) ∙ e)
  one_unsound (inr e) g = unlike (sym (given_sound s g.1) ∙ e)

  pub both-sound : Sized c → Sized s → BothSound c s → Given c × Given s
  both-sound a b k = (sound_given c a k.client, sound_given s b k.server)

  pub sounds : Given c → Given s → BothSound c s
  sounds g h = record { client = given_sound c g; server = given_sound s h }

-- the cases of a writing
pub data Writing (b : Behaviour) (out : List ℕ) : Written → List ℕ → Type 0 where
  unsound : sound b ≡ false → Writing b out (Err (refusal reason.NoFileGivesIt 0)) out
  too_long : sound b ≡ true → length out < length (text b) → Writing b out (Err (refusal reason.LongerThanLent 0)) out
  granted : sound b ≡ true → length (text b) ≤ length out → Writing b out (Ok (length (text b))) (text b ++ drop (length (text b)) out)

pub writing : (b : Behaviour) (out : List ℕ) (r : Written) (left : List ℕ) → Writes b out r left → Writing b out r left
writing b out r left w = rw (w.0, w.1) (go (sound b) (leb (length (text b)) (length out)) refl refl)
  where
    go : (t u : Bool) → sound b ≡ t → leb (length (text b)) (length out) ≡ u
        → Writing b out (if t (if u (Ok (length (text b))) (Err (refusal reason.LongerThanLent 0))) (Err (refusal reason.NoFileGivesIt 0)))
        (if (t && u) (text b ++ drop (length (text b)) out) out)
    go true true e f = granted e (leb-true (length (text b)) (length out) f)
    go true false e f = too_long e (leb-false (length (text b)) (length out) f)
    go false u e f = unsound e

pub writing-refused : {b : Behaviour} {out left : List ℕ} {f : Refusal} → Writing b out (Err f) left → InTable f × (left ≡ out)
writing-refused (unsound e) = (no-file_gives_it, refl)
writing-refused (too_long e h) = (longer_than_lent, refl)

pub writing_13 : {b : Behaviour} {out left : List ℕ} {r : Written} → Sized b → Writing b out r left → (r ≡ Err (refusal reason.NoFileGivesIt 0)) ↔ (Given b → ⊥)
writing_13 {b = b} z (unsound e) = (λ _. (not_given b z).0 e, λ _. refl)
writing_13 {b = b} z (too_long e h) = (λ i. absurd (let n : refusal reason.LongerThanLent 0 ≡ refusal reason.NoFileGivesIt 0 = cc in omega (arith, number n)), λ n. unlike (sym e ∙ (not_given b z).1 n))
writing_13 {b = b} z (granted e h) = (λ i. absurd (let n : ◌≡◌ {A = ℕ} 0 1 = cc in omega arith), λ n. unlike (sym e ∙ (not_given b z).1 n))

pub writing_12 : {b : Behaviour} {out left : List ℕ} {r : Written} → Given b → Writing b out r left → (r ≡ Err (refusal reason.LongerThanLent 0)) ↔ (length out < length (text b))
writing_12 {b = b} g (unsound e) = unlike (sym (given_sound b g) ∙ e)
writing_12 g (too_long e h) = (λ _. h, λ _. refl)
writing_12 g (granted e h) = (λ i. absurd (let n : ◌≡◌ {A = ℕ} 0 1 = cc in omega arith), λ i. absurd (omega arith))

-- the verdict
module _ (c s : Behaviour) (run left : List ℕ) where
  pub judge-refused : (f : Refusal) → Says c s run (Err f) left → InTable f × (left ≡ run)
  unfolding Says
  judge-refused f k = (go k.why, k.kept)
    where
      go : Unsound c s f ⊎ TooLong c s run f → InTable f
      go (inl u) = rw u.is no-file_gives_it
      go (inr t) = rw t.is longer_than_lent

  pub judge_13 : (v : Verdict) → Sized c → Sized s → Says c s run v left → (v ≡ Err (refusal reason.NoFileGivesIt 0)) ↔ (Given c × Given s → ⊥)
  unfolding Says
  judge_13 (Ok (verdict.Compliant k)) a b h = (λ i. absurd (let n : ◌≡◌ {A = ℕ} 0 1 = cc in omega arith), λ n. absurd (n (both-sound c s a b h.sounds)))
  judge_13 (Ok (verdict.Stuck e k)) a b h = (λ i. absurd (let n : ◌≡◌ {A = ℕ} 0 1 = cc in omega arith), λ n. absurd (n (both-sound c s a b h.sounds)))
  judge_13 (Err f) a b h = go h.why
    where
      go : Unsound c s f ⊎ TooLong c s run f → (◌≡◌ {A = Verdict} (Err f) (Err (refusal reason.NoFileGivesIt 0))) ↔ (Given c × Given s → ⊥)
      go (inl u) = (λ _. one_unsound c s u.which, λ _. ap Err u.is)
      go (inr t) = (λ i. absurd (let n : refusal reason.LongerThanLent 0 ≡ refusal reason.NoFileGivesIt 0 = cc (t.is, i) in omega (arith, number n)), λ n. absurd (n (both-sound c s a b t.sounds)))

  -- the run that a stuck pair has, if it is longer than the lent buffer
  abbrev pub Longer : Type 0
  Longer = (e : ℕ) × (w : List ℕ) × Judged c s (stuck e w) × (length run < length w)

  pub judge_12 : (v : Verdict) → Given c → Given s → Says c s run v left → (v ≡ Err (refusal reason.LongerThanLent 0)) ↔ Longer
  unfolding Says
  judge_12 (Ok (verdict.Compliant k)) a b h =
      (λ i. absurd (let n : ◌≡◌ {A = ℕ} 0 1 = cc in omega arith), λ l. absurd (let j = judged_unique c s (compliant k) (stuck l.0 l.1) h.judged l.2 in let n : ◌≡◌ {A = ℕ} 0 1 = cc in omega arith))
  judge_12 (Ok (verdict.Stuck e k)) a b h =
      (λ i. absurd (let n : ◌≡◌ {A = ℕ} 0 1 = cc in omega arith), λ l. absurd (let j = judged_unique c s (stuck e h.steps) (stuck l.0 l.1) h.judged l.2 in let i : h.steps ≡ l.1 = cc in omega (arith, l.3, h.fits, h.long, ap length i)))
  judge_12 (Err f) a b h = go h.why
    where
      go : Unsound c s f ⊎ TooLong c s run f → (◌≡◌ {A = Verdict} (Err f) (Err (refusal reason.LongerThanLent 0))) ↔ Longer
      go (inl u) = absurd (one_unsound c s u.which (a, b))
      go (inr t) = (λ _. (t.cause, t.steps, t.judged, t.over), λ _. ap Err t.is)

-- the text of the verdict program
module _ (f g out : List ℕ) where
  telling : (A : Type 0) (told : List ℕ) (r : Reported) (e : List ℕ) → Tells told out r e
      → (length out < length told → r ≡ Err (refusal reason.LongerThanLent 0) → e ≡ out → A) → (length told ≤ length out → r ≡ Ok (length told) → A) → A
  telling A told r e t p q = go (leb (length told) (length out)) refl t.says t.leaves
    where
      go : (u : Bool) → leb (length told) (length out) ≡ u → r ≡ if u (Ok (length told)) (Err (refusal reason.LongerThanLent 0))
          → e ≡ if u (told ++ drop (length told) out) out → A
      go true i h k = q (leb-true (length told) (length out) i) h
      go false i h k = p (leb-false (length told) (length out) i) h k

  pub report-granted : (left : List ℕ) (n : ℕ) (h : Reports f g out (Ok n) left) (A : Type 0) → (n ≡ length h.text → A) → A
  report-granted left n h A k = telling A h.text (Ok n) left h.told (λ _ e _. absurd (let z : ◌≡◌ {A = ℕ} 0 1 = cc in omega arith)) (λ _ e. k (let i : n ≡ length h.text = cc in i))

  pub report-refused : (x : Refusal) (left : List ℕ) → Reports f g out (Err x) left → InTable x × (left ≡ out)
  report-refused x left h = telling (InTable x × (left ≡ out)) h.text (Err x) left h.told
      (λ _ e k. (let i : x ≡ refusal reason.LongerThanLent 0 = cc in rw i longer_than_lent, k))
      (λ _ e. absurd (let n : ◌≡◌ {A = ℕ} 0 1 = cc in omega arith))

  -- the text that is printed, if it is longer than the lent buffer
  abbrev pub LongerText : Type 0
  LongerText = (told : List ℕ) × Prints f g told × (length out < length told)

  pub report_12 : (r : Reported) (left : List ℕ) → Reports f g out r left → (r ≡ Err (refusal reason.LongerThanLent 0)) ↔ LongerText
  report_12 r left h = telling ((r ≡ Err (refusal reason.LongerThanLent 0)) ↔ LongerText) h.text r left h.told
      (λ l e k. (λ _. (h.text, h.prints, l), λ _. e))
      (λ l e. (λ i. absurd (let n : ◌≡◌ {A = ℕ} 0 1 = cc (e, i) in omega arith), λ k. absurd (omega (arith, l, k.2, ap length (one_output f g h.text k.0 h.prints k.1)))))
