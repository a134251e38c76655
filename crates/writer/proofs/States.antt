-- What is left of the text at a place of the messages, and at a state.
use mathlib.Core.Path.{◌≡◌, refl, ap, ◌∙◌}
use mathlib.Core.List.{List, [], ◌∷◌, ◌++◌, append_assoc, append-nil}
use Prim.Native.Nat.{ℕ, ◌+◌}
use borrow.Author.Tests.{eq-eqb, ne_eqb}
use lib.ListN.{length}
use Rattle.std.proofs.lemmas.List.{nil_from_length}
use Rattle.tokens.specs.declared.Label.TheVariants.{Mark}
use Rattle.tokens.specs.declared.Line.{Line}
use Rattle.behaviour.specs.declared.Message.{Message}
use Rattle.text.specs.Spelling.{line_text}
use Rattle.writer.specs.Text.{message_line, mark_line, message_lines, after_state, lines_from, lines_text}

texts_append : (a b : List Line) → lines_text (a ++ b) ≡ lines_text a ++ lines_text b
unfolding lines_text
texts_append [] b = refl
texts_append (l ∷ a) b = rw (texts_append a b, append_assoc)

-- the mark's line, by the test that the code makes
module _ (k m : ℕ) where
  pub mark-none : (m ≡ 1 → ⊥) → [] ≡ lines_text (mark_line k m)
  unfolding lines_text
  mark-none h = rw (ne_eqb m 1 h)

  pub mark-some : m ≡ 1 → lines_text (mark_line k m) ≡ line_text (record { from = k; label = Mark; to = k })
  unfolding lines_text
  mark-some h = rw (eq-eqb m 1 h, append-nil)

-- the first message, by whether it is of the state k
module _ (k : ℕ) {a : List Message} {m : Message} {l : List Message} (e : a ≡ m ∷ l) where
  module _ (f : m.from ≡ k) where
    pub message-here : (g : ℕ) → lines_text (message_lines k g a) ≡ line_text (message_line g m) ++ lines_text (message_lines k g l)
    unfolding message_lines lines_text
    message-here g = rw (e, eq-eqb m.from k f) refl

    pub after-here : after_state k a ≡ after_state k l
    unfolding after_state
    after-here = rw (e, eq-eqb m.from k f) refl

  module _ (f : m.from ≡ k → ⊥) where
    pub message-none : (g : ℕ) → lines_text (message_lines k g a) ≡ []
    unfolding message_lines lines_text
    message-none g = rw (e, ne_eqb m.from k f) refl

    pub after_none : after_state k a ≡ a
    unfolding after_state
    after_none = rw (e, ne_eqb m.from k f) refl

-- where no message is left
module _ (k : ℕ) (a : List Message) (h : length a ≡ 0) where
  pub message-end : (g : ℕ) → lines_text (message_lines k g a) ≡ []
  unfolding message_lines lines_text
  message-end g = rw (nil_from_length a h) refl

  pub after-end : after_state k a ≡ a
  unfolding after_state
  after-end = rw (nil_from_length a h) refl

-- the lines from the state k on, by the marks and signs that are left
module _ (k : ℕ) (ms gs : List ℕ) (l : List Message) where
  pub state-here : {m g : ℕ} {ns hs : List ℕ} → ms ≡ m ∷ ns → gs ≡ g ∷ hs
      → lines_text (lines_from k ms gs l) ≡ lines_text (mark_line k m) ++ (lines_text (message_lines k g l) ++ lines_text (lines_from (k + 1) ns hs (after_state k l)))
  unfolding lines_from
  state-here {m} {g} {ns} {hs} e f =
      let x : List Line = lines_from (k + 1) ns hs (after_state k l) in
      rw (e, f)
      (texts_append (mark_line k m) (message_lines k g l ++ x)
      ∙ ap (λ (y : List ℕ). lines_text (mark_line k m) ++ y) (texts_append (message_lines k g l) x))

  pub no-mark-left : length ms ≡ 0 → lines_text (lines_from k ms gs l) ≡ []
  unfolding lines_from lines_text
  no-mark-left h = rw (nil_from_length ms h) refl

  pub no-sign-left : length gs ≡ 0 → lines_text (lines_from k ms gs l) ≡ []
  unfolding lines_from lines_text
  no-sign-left h = rw (nil_from_length gs h) (none ms)
    where
      none : (ns : List ℕ) → lines_text (lines_from k ns [] l) ≡ []
      none [] = refl
      none (n ∷ ns) = refl
