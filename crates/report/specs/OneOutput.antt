-- Two files have one output, and `report` one answer: two that are allowed are equal.
use Rattle.std.specs.Prelude.{◌≡◌, Ok, Err, is_ok, List, ℕ}
use Rattle.std.proofs.Common.{sym, ◌∙◌, ap}
use Rattle.std.proofs.lemmas.Bool.{false≢true}
use Rattle.behaviour.specs.declared.Behaviour.{Behaviour}
use Rattle.behaviour.specs.declared.Refusal.{Refusal}
use Rattle.stands.specs.Cases.{bytes}
use Rattle.aut.specs.File.{Read, file}
use Rattle.compliance.specs.OneJudgement.{judged_unique}
use Rattle.report.specs.Said.{Reported}
use Rattle.report.specs.Output.{Taken, Prints, client-refused, server-refused, both-judged, refused_text, judged_text}
use Rattle.report.specs.Reports.{answer, left, Reports}

not-taken : (f : List ℕ) {r : Refusal} → file f ≡ Err r → Taken f → ⊥
not-taken f n a = false≢true (sym (ap is_ok n) ∙ a)

one_refusal : (f : List ℕ) {r q : Refusal} → file f ≡ Err r → file f ≡ Err q → r ≡ q
one_refusal f {r} {q} n m = let e : ◌≡◌ {A = Read} (Err r) (Err q) = sym n ∙ m in cc

one_value : (f : List ℕ) {b c : Behaviour} → file f ≡ Ok b → file f ≡ Ok c → b ≡ c
one_value f {b} {c} n m = let e : ◌≡◌ {A = Read} (Ok b) (Ok c) = sym n ∙ m in cc

pub one_output : (f g t u : List ℕ) → Prints f g t → Prints f g u → t ≡ u
one_output f g t u (client-refused r n e) (client-refused q m d) = e ∙ ap (refused_text (bytes "client")) (one_refusal f n m) ∙ sym d
one_output f g t u (client-refused r n e) (server-refused a q m d) = absurd (not-taken f n a)
one_output f g t u (client-refused r n e) (both-judged c s a b j h d) = absurd (not-taken f n (ap is_ok a))
one_output f g t u (server-refused a r n e) (client-refused q m d) = absurd (not-taken f m a)
one_output f g t u (server-refused a r n e) (server-refused b q m d) = e ∙ ap (refused_text (bytes "server")) (one_refusal g n m) ∙ sym d
one_output f g t u (server-refused a r n e) (both-judged c s b k j h d) = absurd (not-taken g n (ap is_ok k))
one_output f g t u (both-judged c s a b i q e) (client-refused r m d) = absurd (not-taken f m (ap is_ok a))
one_output f g t u (both-judged c s a b i q e) (server-refused k r m d) = absurd (not-taken g m (ap is_ok b))
one_output f g t u (both-judged c s a b i q e) (both-judged x y k l j h d) =
    let v = one_value f a k in
    let w = one_value g b l in
    e ∙ ap (judged_text c s) (judged_unique c s i j q (rw (v, w) h)) ∙ rw (v, w) (sym d)

pub one_report : (f g out : List ℕ) (r q : Reported) (e d : List ℕ) → Reports f g out r e → Reports f g out q d → (r ≡ q) × (e ≡ d)
one_report f g out r q e d a b =
    let h = one_output f g a.text b.text a.prints b.prints in
    (a.told.says ∙ ap (λ (t : List ℕ). answer t out) h ∙ sym b.told.says, a.told.leaves ∙ ap (λ (t : List ℕ). left t out) h ∙ sym b.told.leaves)
