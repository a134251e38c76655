-- The round trip: reading what is written of a valid value gives the value.
use Rattle.std.specs.Prelude.{◌≡◌, refl, Bool, ◌⊎◌, ℕ, suc, ◌+◌, ◌-◌, ◌<◌, ◌≤◌, eqb, length, replicate}
use Rattle.std.proofs.Common.{sym, ap, subst, ◌∙◌, inl, inr, arith, eq-eqb, ne_eqb, le-ltb, length-append}
use mathlib.Core.List.{List, [], ◌∷◌, ◌++◌}
use Rattle.std.proofs.Math.Bool.{true, false}
use Rattle.std.proofs.Math.Seq.{take-append_seam}
use Rattle.names.specs.If.{if}
use Rattle.names.specs.Names.{is_name}
use Rattle.tokens.specs.declared.Label.TheVariants.{Mark, Take, Send}
use Rattle.tokens.specs.declared.Line.{Line}
use Rattle.behaviour.specs.declared.Message.{Message}
use Rattle.behaviour.specs.declared.Behaviour.{Behaviour}
use Rattle.behaviour.specs.Limits.{most_states, most_lines, most_bytes}
use Rattle.behaviour.specs.Pick.{unused}
use Rattle.behaviour.specs.Sound.{messages, total}
use Rattle.aut.specs.Adding.{bare}
use Rattle.aut.specs.File.{Read, marked_finished, finish, accept, file}
use Rattle.aut.specs.Contents.{judged}
use Rattle.text.specs.Spelling.{message_label, head_text}
use Rattle.writer.specs.Text.{message_line, mark_line, message_lines, after_state, lines_from, lines_text, line_count, text}
use Rattle.writer.specs.Lengths.{parts-length, text-few}
use Rattle.roundtrip.specs.Lines.{Allowed}
use Rattle.roundtrip.specs.AddAll.{Each, none, more, file-read}
use Rattle.roundtrip.specs.Rebuild.{holding, AllBetween, Settled, lines-rebuilt}
use Rattle.roundtrip.specs.Sorted.{Sorted, sorted_ascend, between-after}

each_append : (a b : List Line) → Each a → Each b → Each (a ++ b)
each_append [] b p q = q
each_append (l ∷ a) b (more w p) q = more w (each_append a b p q)

signed-allowed : (g n : ℕ) → is_name n ≡ true → Allowed (message_label g n)
signed-allowed g n e = go (eqb g 1)
  where
    go : (t : Bool) → Allowed (if t (Take n) (Send n))
    go true = e
    go false = e

module _ (s : ℕ) (high : s ≤ most_states) where
  each-message : (k g : ℕ) (ms : List Message) → AllBetween s ms → Each (message_lines k g ms)
  unfolding message_lines
  each-message k g [] v = none
  each-message k g (m ∷ ms) v = go (eqb m.from k) (each-message k g ms v.1)
    where
      go : (t : Bool) → Each (message_lines k g ms) → Each (if t (message_line g m ∷ message_lines k g ms) [])
      go true h =
          let f = v.0.0 in let t = v.0.1 in
          more {l = message_line g m} (record { from_low = omega arith; to_low = omega arith; allowed = signed-allowed g m.name v.0.2 }) h
      go false h = none

  each-mark : (k m : ℕ) → (m ≡ 0) ⊎ ((m ≡ 1) × (k < s)) → Each (mark_line k m)
  each-mark k m (inl z) = rw (ne_eqb m 1 (omega arith)) none
  each-mark k m (inr z) = let l = z.1 in rw (eq-eqb m 1 z.0) (more {l = record { from = k; label = Mark; to = k }} (record { from_low = omega arith; to_low = omega arith; allowed = tt }) none)

  each_line : (mk gs : List ℕ) (k : ℕ) (ms : List Message) → Settled s k mk gs ms → AllBetween s ms → Each (lines_from k mk gs ms)
  unfolding lines_from
  each_line [] [] k ms o v = none
  each_line [] (g ∷ gs) k ms o v = none
  each_line (m ∷ mk) [] k ms o v = none
  each_line (m ∷ mk) (g ∷ gs) k ms o v =
      each_append (mark_line k m) _ (each-mark k m o.0)
      (each_append (message_lines k g ms) _ (each-message k g ms v) (each_line mk gs (k + 1) (after_state k ms) o.2 (between-after s k ms v)))

-- marks and messages are all written
lines-counted : (s k : ℕ) (ms gs : List ℕ) (l : List Message) → Settled s k ms gs l → length (lines_from k ms gs l) ≡ total ms + length l
unfolding lines_from total
lines-counted s k [] [] l o = rw o
lines-counted s k [] (g ∷ gs) l o = absurd o
lines-counted s k (m ∷ ms) [] l o = absurd o
lines-counted s k (m ∷ ms) (g ∷ gs) l o =
    let h = lines-counted s (k + 1) ms gs (after_state k l) o.2 in
    let p = parts-length k g l in
    let e : length (message_lines k g l ++ lines_from (k + 1) ms gs (after_state k l)) ≡ length (message_lines k g l) + length (lines_from (k + 1) ms gs (after_state k l)) =
    length-append (message_lines k g l) (lines_from (k + 1) ms gs (after_state k l)) in
    go (eqb m 1) (omega arith)
  where
    go : (t : Bool) → length (message_lines k g l ++ lines_from (k + 1) ms gs (after_state k l)) ≡ total ms + length l
        → length (if t (record { from = k; label = Mark; to = k } ∷ []) [] ++ (message_lines k g l ++ lines_from (k + 1) ms gs (after_state k l)))
        ≡ if t (suc (total ms)) (total ms) + length l
    go true h = omega arith
    go false h = omega arith

-- a value that reading can give
pub record Valid (b : Behaviour) : Type 0 where
  pub low : 1 ≤ b.states
  pub high : b.states ≤ most_states
  pub ten_marks : length b.marks ≡ most_states
  pub ten_signs : length b.signs ≡ most_states
  pub used : List Message
  pub is : b ≡ holding b.states b.marks b.signs used
  pub settled : Settled b.states 0 b.marks b.signs used
  pub sorted : Sorted used
  pub between : AllBetween b.states used
  pub counted : total b.marks + length used ≤ most_lines
  pub unfinished : most_states ≤ marked_finished 0 b.marks b.signs

pub round_trip : (b : Behaviour) → Valid b → file (text b) ≡ accept b
unfolding text
round_trip b v =
    let ls = lines_from 0 b.marks b.signs v.used in
    let c = v.counted in
    let t : length ls ≡ line_count b = lines-counted b.states 0 b.marks b.signs v.used v.settled ∙ all in
    let short : length (head_text (length ls) b.states ++ lines_text ls) ≤ most_bytes =
    subst (λ (w : List ℕ). length w ≤ most_bytes) (sym (same t)) (text-few b (omega (arith, all))) in
    ap file (sym (same t))
    ∙ file-read b.states ls v.low v.high (omega (arith, all, t)) (each_line b.states v.high b.marks b.signs 0 v.used v.settled v.between) short
    ∙ rebuilt
    ∙ ap {B = Read} (λ (x : Behaviour). finish x) (sym v.is)
    ∙ rw (le-ltb (marked_finished 0 b.marks b.signs) most_states v.unfinished)
  where
    firsts : messages b ≡ v.used
    firsts = ap (λ (x : Behaviour). messages x) v.is ∙ take-append_seam v.used (replicate (most_lines - length v.used) unused)

    counts : b.count ≡ length v.used
    counts = ap (λ (x : Behaviour). x.count) v.is

    all : total b.marks + length v.used ≡ line_count b
    all = omega (arith, counts)

    same : length (lines_from 0 b.marks b.signs v.used) ≡ line_count b
        → head_text (length (lines_from 0 b.marks b.signs v.used)) b.states ++ lines_text (lines_from 0 b.marks b.signs v.used) ≡ text b
    same t = rw (t, firsts)

    rebuilt : judged 2 (bare b.states) (lines_from 0 b.marks b.signs v.used) ≡ finish (holding b.states b.marks b.signs v.used)
    rebuilt =
        subst (λ (n : ℕ). judged 2 (holding b.states (replicate n 0) (replicate most_states 0) []) (lines_from 0 b.marks b.signs v.used) ≡ finish (holding b.states b.marks b.signs v.used)) v.ten_marks
        (subst (λ (n : ℕ). judged 2 (holding b.states (replicate (length b.marks) 0) (replicate n 0) []) (lines_from 0 b.marks b.signs v.used) ≡ finish (holding b.states b.marks b.signs v.used)) v.ten_signs
        (lines-rebuilt b.states b.marks b.signs 0 v.used [] [] [] refl refl v.settled (sorted_ascend v.used v.sorted) v.between (let f = v.counted in omega arith) 2))
