-- Whatever is read is valid.
use Rattle.std.specs.Prelude.{◌≡◌, Result, Ok, Err, ⊤, List, [], ◌∷◌, Bool, true, false, ◌&&◌, ◌⊎◌, ℕ, zero, suc, ◌+◌, ◌-◌, ◌<◌, ◌≤◌, eqb, leb, ltb, get_or, replicate}
use Rattle.std.proofs.Math.Path.{refl}
use Rattle.std.proofs.Common.{sym, ap, subst, ◌∙◌, inl, inr, arith, ltb-false, leb-true}
use Rattle.std.proofs.Math.ListN.{length, length-set, set}
use Rattle.std.proofs.Math.Seq.{take-append_seam, drop-append-add}
use Rattle.names.specs.If.{if}
use Rattle.names.specs.Names.{is_name}
use Rattle.tokens.specs.Parse.{Got, got, off}
use Rattle.tokens.specs.Lines.{line, head}
use Rattle.tokens.specs.declared.Label.{Label}
use Rattle.tokens.specs.declared.Label.TheVariants.{Mark, Take, Send, Other}
use Rattle.tokens.specs.declared.Line.{Line}
use Rattle.tokens.specs.declared.Head.{Head}
use Rattle.behaviour.specs.declared.Reason.{Reason}
use Rattle.behaviour.specs.declared.Reason.TheVariants as reason
use Rattle.behaviour.specs.declared.Message.{Message}
use Rattle.behaviour.specs.declared.Behaviour.{Behaviour}
use Rattle.behaviour.specs.Limits.{most_states, most_lines, most_bytes}
use Rattle.behaviour.specs.Pick.{unused}
use Rattle.behaviour.specs.Sound.{messages, total}
use Rattle.aut.specs.Adding.{insert, has, bare, add, add_label, add_message, check, check_label, check_message}
use Rattle.aut.specs.Accepting.{low}
use Rattle.aut.specs.File.{Read, refuse, if_passed, accept, marked_finished, finish, next, lines, begin, file}
use Rattle.writer.specs.Text.{after_state}
use Rattle.roundtrip.specs.Rebuild.{holding, AllBetween, Settled, rest-zero}
use Rattle.roundtrip.specs.Sorted.{Sorted, least, insert-sorted, insert-between, insert-length, settled-message, settled-mark}
use Rattle.roundtrip.specs.RoundTrip.{Valid}
use Rattle.roundtrip.specs.Fair.{LabelFair, All, line-fair}

total-set : (mk : List ℕ) (i : ℕ) → total (set mk i 1) ≤ total mk + 1
unfolding total
total-set [] i = omega arith
total-set (m ∷ mk) zero = go (eqb m 1)
  where
    go : (t : Bool) → suc (total mk) ≤ if t (suc (total mk)) (total mk) + 1
    go true = omega arith
    go false = omega arith
total-set (m ∷ mk) (suc i) = go (eqb m 1) (total-set mk i)
  where
    go : (t : Bool) → total (set mk i 1) ≤ total mk + 1 → if t (suc (total (set mk i 1))) (total (set mk i 1)) ≤ if t (suc (total mk)) (total mk) + 1
    go true h = omega arith
    go false h = omega arith

-- what holds after n lines
pub record Held (s n : ℕ) (mk gs : List ℕ) (l : List Message) : Type 0 where
  pub ten_marks : length mk ≡ most_states
  pub ten_signs : length gs ≡ most_states
  pub sorted : Sorted l
  pub settled : Settled s 0 mk gs l
  pub between : AllBetween s l
  pub counted : total mk + length l ≤ n

message_added : (s : ℕ) (p q : List ℕ) (a : List Message) (m : Message) (g : ℕ) → length a < most_lines → add_message (holding s p q a) g m ≡ holding s p (set q m.from g) (insert m a)
message_added s p q a m g r =
    rw (insert-length m a, take-append_seam a (replicate (most_lines - length a) unused), drop-append-add a (replicate (most_lines - length a) unused) 1, rest-zero (length a) r)

message_new : (b : Behaviour) (f o n : ℕ) → check_message b f o n ≡ Ok tt → has f n (messages b) ≡ false
message_new b f o n e = go (eqb (get_or b.signs f 0) o) (has f n (messages b)) e
  where
    go : (t u : Bool) → ◌≡◌ {A = Result ⊤ Reason} (if t (Err reason.TakingAndSending) (if u (Err reason.SameNameAgain) (Ok tt))) (Ok tt) → u ≡ false
    go true u h = absurd cc
    go false true h = absurd cc
    go false false h = refl

Next : ℕ → ℕ → Behaviour → Type 0
Next s n b = (mk : List ℕ) × (gs : List ℕ) × (l : List Message) × (b ≡ holding s mk gs l) × Held s n mk gs l

module _ (s n : ℕ) (high : s ≤ most_states) (few : n < most_lines) (mk gs : List ℕ) (a : List Message) (h : Held s n mk gs a) where
  room : length a < most_lines
  room = let c = h.counted in omega arith

  message-held : (m : Message) (g : ℕ) → (g ≡ 1) ⊎ (g ≡ 2) → (m.from < s) × (m.to < s) × (is_name m.name ≡ true) → has m.from m.name a ≡ false
      → Next s (n + 1) (add_message (holding s mk gs a) g m)
  unfolding Next
  message-held m g o w d =
      let c = h.counted in let f = w.0 in let e = h.ten_signs in (
        mk,
        set gs m.from g,
        insert m a,
        message_added s mk gs a m g room,
        record {
          ten_marks = h.ten_marks;
          ten_signs = length-set gs m.from g ∙ e;
          sorted = insert-sorted m a h.sorted d;
          settled = settled-message s 0 mk gs m.from g m a (omega arith) (omega arith) o h.sorted (least a) h.settled;
          between = insert-between s m a w h.between;
          counted = rw (insert-length m a) (omega arith);
        },
      )

  label-held : (f t : ℕ) (l : Label) → LabelFair l → f < s → t < s → check_label (holding s mk gs a) f t l ≡ Ok tt → Next s (n + 1) (add_label (holding s mk gs a) f t l)
  unfolding Next
  label-held f t Mark w p q e =
      let c = h.counted in let o = total-set mk f in (
        set mk f 1,
        gs,
        a,
        refl,
        record {
          ten_marks = length-set mk f 1 ∙ h.ten_marks;
          ten_signs = h.ten_signs;
          sorted = h.sorted;
          settled = settled-mark s 0 mk gs f a (omega arith) h.settled;
          between = h.between;
          counted = omega arith;
        },
      )
  label-held f t (Take x) w p q e =
      message-held (record { from = f; name = x; to = t }) 1 (inl refl) (p, q, w)
      (sym (ap (has f x) (take-append_seam a (replicate (most_lines - length a) unused))) ∙ message_new (holding s mk gs a) f 2 x e)
  label-held f t (Send x) w p q e =
      message-held (record { from = f; name = x; to = t }) 2 (inr refl) (p, q, w)
      (sym (ap (has f x) (take-append_seam a (replicate (most_lines - length a) unused))) ∙ message_new (holding s mk gs a) f 1 x e)
  label-held f t Other w p q e = absurd cc

  line-held : (l : Line) → LabelFair l.label → check (holding s mk gs a) l ≡ Ok tt → Next s (n + 1) (add (holding s mk gs a) l)
  unfolding add
  line-held l w e = let c = low (holding s mk gs a) l e in label-held l.from l.to l.label w c.0 c.1 c.2

-- an answer that is no refusal has a valid value
Fine : Read → Type 0
Fine (Ok b) = Valid b
Fine (Err f) = Unit {0}

refuse-fine : (k : Reason) (p : ℕ) → Fine (refuse k p)
unfolding Fine
refuse-fine k p = tt

finish-fine : (s n : ℕ) → 1 ≤ s → s ≤ most_states → n ≤ most_lines → (mk gs : List ℕ) (a : List Message) → Held s n mk gs a → Fine (finish (holding s mk gs a))
unfolding Fine
finish-fine s n low high few mk gs a h = go (ltb (marked_finished 0 mk gs) most_states) refl
  where
    valid : ltb (marked_finished 0 mk gs) most_states ≡ false → Valid (holding s mk gs a)
    valid e = let c = h.counted in record {
      low = low;
      high = high;
      ten_marks = h.ten_marks;
      ten_signs = h.ten_signs;
      used = a;
      is = refl;
      settled = h.settled;
      sorted = h.sorted;
      between = h.between;
      counted = omega arith;
      unfinished = ltb-false _ _ e;
    }

    go : (t : Bool) → ltb (marked_finished 0 mk gs) most_states ≡ t → Fine (if t (refuse reason.FinishedMarked (marked_finished 0 mk gs)) (accept (holding s mk gs a)))
    go true e = tt
    go false e = valid e

Later : ℕ → ℕ → ℕ → ℕ → Type 0
Later s n t p = (mk : List ℕ) (gs : List ℕ) (a : List Message) → Held s n mk gs a → (r : List ℕ) → Fine (lines t p (holding s mk gs a) r)

go_on : (s n t p : ℕ) (d : Behaviour) (r : List ℕ) → Next s n d → Later s n t p → Fine (lines t p d r)
unfolding Later Next
go_on s n t p d r x i = subst (λ (y : Behaviour). Fine (lines t p y r)) (sym x.3) (i x.0 x.1 x.2 x.4 r)

next-fine : (s n t p : ℕ) → s ≤ most_states → n < most_lines → (mk gs : List ℕ) (a : List Message) → Held s n mk gs a → Later s (n + 1) t (p + 1)
    → (m : Got Line) → All (λ (l : Line). LabelFair l.label) m → Fine (next p (holding s mk gs a) m (lines t (p + 1)))
unfolding Fine
next-fine s n t p high few mk gs a h i off w = tt
next-fine s n t p high few mk gs a h i (got l r) w = go (check (holding s mk gs a) l) refl
  where
    go : (k : Result ⊤ Reason) → check (holding s mk gs a) l ≡ k → Fine (if_passed p k (lines t (p + 1) (add (holding s mk gs a) l) r))
    go (Ok _) e = go_on s (n + 1) t (p + 1) (add (holding s mk gs a) l) r (line-held s n high few mk gs a h l w e) i
    go (Err k) e = tt

lines-fine : (s : ℕ) → 1 ≤ s → s ≤ most_states → (t n : ℕ) → n + t ≤ most_lines → (mk gs : List ℕ) (a : List Message) → Held s n mk gs a → (p : ℕ) (r : List ℕ) → Fine (lines t p (holding s mk gs a) r)
unfolding lines Later
lines-fine s low high zero n few mk gs a h p [] = finish-fine s n low high (omega arith) mk gs a h
lines-fine s low high zero n few mk gs a h p (c ∷ r) = refuse-fine reason.LineShape p
lines-fine s low high (suc t) n few mk gs a h p r =
    next-fine s n t p high (omega arith) mk gs a h (λ mk' gs' a' h' r'. lines-fine s low high t (n + 1) (omega arith) mk' gs' a' h' (p + 1) r') (line r) (line-fair r)

zeros_held : (s : ℕ) → Held s 0 (replicate most_states 0) (replicate most_states 0) []
unfolding total after_state
zeros_held s = record {
  ten_marks = refl;
  ten_signs = refl;
  sorted = tt;
  settled = ((inl refl, refl, (inl refl, refl, (inl refl, refl, (inl refl, refl, (inl refl, refl, (inl refl, refl, (inl refl, refl, (inl refl, refl, (inl refl, refl, (inl refl, refl, refl)))))))))));
  between = tt;
  counted = omega arith;
}

file-fine : (r : List ℕ) → Fine (file r)
unfolding file
file-fine r = go (leb (length r) most_bytes) (head r)
  where
    inner : (h : Head) (s : List ℕ) (t u v w : Bool) → leb 1 h.states ≡ u → leb h.states most_states ≡ v → leb h.lines most_lines ≡ w
        → Fine (if t (if (u && v && w) (lines h.lines 2 (bare h.states) s) (refuse reason.SizeOutsideRange 1)) (refuse reason.StartNotZero 1))
    inner h s false u v w a b c = refuse-fine reason.StartNotZero 1
    inner h s true true true true a b c =
        let l : h.lines ≤ most_lines = leb-true h.lines most_lines c in
        lines-fine h.states (leb-true _ _ a) (leb-true _ _ b) h.lines 0 (omega arith) (replicate most_states 0) (replicate most_states 0) [] (zeros_held h.states) 2 s
    inner h s true true true false a b c = refuse-fine reason.SizeOutsideRange 1
    inner h s true true false w a b c = refuse-fine reason.SizeOutsideRange 1
    inner h s true false v w a b c = refuse-fine reason.SizeOutsideRange 1

    go : (t : Bool) (m : Got Head) → Fine (if t (begin m) (refuse reason.FileTooLong 0))
    go false m = refuse-fine reason.FileTooLong 0
    go true off = refuse-fine reason.FirstLineShape 1
    go true (got h s) = inner h s (eqb h.start 0) (leb 1 h.states) (leb h.states most_states) (leb h.lines most_lines) refl refl refl

pub read-valid : (r : List ℕ) (b : Behaviour) → file r ≡ accept b → Valid b
unfolding Fine
read-valid r b e = subst Fine e (file-fine r)
