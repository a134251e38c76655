-- An accepted file has contents: the laws of `Contents` that rest on how a line that can't be read is refused.
use Rattle.std.specs.Prelude.{◌≡◌, Result, Ok, Err, ⊤, ℕ, zero, suc, ◌+◌, length}
use Rattle.std.proofs.Math.Path.{refl}
use Rattle.std.proofs.Common.{le-leb}
use mathlib.Core.List.{List, [], ◌∷◌}
use Rattle.std.proofs.lemmas.Bool.{false≢true}
use Rattle.tokens.specs.Parse.{Got, got, off}
use Rattle.tokens.specs.Lines.{line, head}
use Rattle.tokens.specs.declared.Line.{Line}
use Rattle.tokens.specs.declared.Head.{Head}
use Rattle.behaviour.specs.declared.Behaviour.{Behaviour}
use Rattle.behaviour.specs.declared.Reason.{Reason}
use Rattle.behaviour.specs.Limits.{most_bytes}
use Rattle.aut.specs.Adding.{bare, add, check}
use Rattle.aut.specs.File.{if_passed, next, lines, begin, file}
use Rattle.aut.specs.Contents.{Accepted, Contents, lines_read, begin_ranges, begin-lines, file-short}

-- an accepted file has contents
record Readable (t : ℕ) (s : List ℕ) : Type 0 where
  those : List Line
  read : lines_read t s ≡ got those []

module _ (p : ℕ) (b : Behaviour) (t : ℕ) (again : (c : Behaviour) (r : List ℕ) → Accepted (lines t (p + 1) c r) → Readable t r) where
  readable-step : (s : List ℕ) (g : Got Line) → line s ≡ g → Accepted (next p b g (lines t (p + 1))) → Readable (suc t) s
  unfolding lines_read
  readable-step s off e a = absurd (false≢true a)
  readable-step s (got l r) e a = go (check b l) a
    where
      more : Readable t r → Readable (suc t) s
      more d = record { those = l ∷ d.those; read = rw (e, d.read) }

      go : (k : Result ⊤ Reason) → Accepted (if_passed p k (lines t (p + 1) (add b l) r)) → Readable (suc t) s
      go (Ok _) h = more (again (add b l) r h)
      go (Err k) h = absurd (false≢true h)

readable : (t p : ℕ) (b : Behaviour) (s : List ℕ) → Accepted (lines t p b s) → Readable t s
unfolding lines lines_read
readable zero p b [] a = record { those = []; read = refl }
readable zero p b (c ∷ s) a = absurd (false≢true a)
readable (suc t) p b s a = readable-step p b t (λ c r h. readable t (p + 1) c r h) s (line s) refl a

pub contents_of : (s : List ℕ) → Accepted (file s) → Contents s
unfolding file
contents_of s a = go (head s) refl (rw (le-leb (length s) most_bytes (file-short s a)) at a)
  where
    go : (g : Got Head) → head s ≡ g → Accepted (begin g) → Contents s
    go off e h = absurd (false≢true h)
    go (got h r) e x =
        let d = readable h.lines 2 (bare h.states) r (rw (begin-lines h r (begin_ranges h r x)) at x) in
        record { first = h; others = d.those; rest = r; first_read = e; others-read = d.read }
