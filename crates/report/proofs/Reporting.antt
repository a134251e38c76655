-- From what the two files are read as to the whole report.
use Rattle.std.specs.Prelude.{◌≡◌, refl, ℕ, List, [], ◌∷◌, length, Ok, Err, is_ok}
use Rattle.std.proofs.Common.{sym, ◌∙◌, ap}
use Rattle.behaviour.specs.declared.Behaviour.{Behaviour}
use Rattle.behaviour.specs.declared.Refusal.{Refusal}
use Rattle.aut.specs.File.{Read, file}
use Rattle.stands.specs.Cases.{bytes}
use Rattle.roundtrip.specs.Theorems.{read-sound}
use Rattle.report.specs.Said.{Reported}
use Rattle.report.specs.Output.{refused_text, judged_text, client-refused, server-refused, both-judged}
use Rattle.report.specs.Reports.{Tells, Reports}
use Rattle.report.specs.Judges.{CanJudge, Judges}

module _ (f g : List ℕ) {a : Read} (p : a ≡ file f) where
  pub reports-client : {r : Reported} {out e : List ℕ} {x : Refusal} → a ≡ Err x → Tells (refused_text (99 ∷ 108 ∷ 105 ∷ 101 ∷ 110 ∷ 116 ∷ []) x) out r e → Reports f g out r e
  unfolding bytes
  reports-client {x = x} n t = record { text = refused_text (bytes "client") x; prints = client-refused x (sym p ∙ n) refl; told = t }

  module _ {c : Behaviour} (n : a ≡ Ok c) {b : Read} (q : b ≡ file g) where
    pub reports-server : {r : Reported} {out e : List ℕ} {x : Refusal} → b ≡ Err x → Tells (refused_text (115 ∷ 101 ∷ 114 ∷ 118 ∷ 101 ∷ 114 ∷ []) x) out r e → Reports f g out r e
    unfolding bytes
    reports-server {x = x} m t = record { text = refused_text (bytes "server") x; prints = server-refused (ap is_ok (sym p ∙ n)) x (sym q ∙ m) refl; told = t }

    module _ {s : Behaviour} (m : b ≡ Ok s) where
      pub can-judge : {run : List ℕ} → length run ≡ 12100 → CanJudge c s run
      can-judge l =
          let h = read-sound f c (sym p ∙ n) in
          let k = read-sound g s (sym q ∙ m) in
          record { sounds = record { client = h.0; server = k.0 }; client = h.1; server = k.1; room = l }

      pub reports-both : {r : Reported} {out e : List ℕ} → Judges c s out r e → Reports f g out r e
      reports-both j = record {
        text = judged_text c s j.judgement;
        prints = both-judged c s (sym p ∙ n) (sym q ∙ m) j.judgement j.judged refl;
        told = j.told;
      }
