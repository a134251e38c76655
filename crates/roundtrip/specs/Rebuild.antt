-- The lines of a sound value, added one after the other, give the value.
use Rattle.std.specs.Prelude.{◌≡◌, Ok, Bool, true, false, ◌⊎◌, ℕ, suc, ◌+◌, ◌-◌, ◌<◌, ◌≤◌, eqb, set, drop, replicate}
use Rattle.std.proofs.Math.Path.{refl, ap, subst}
use Rattle.std.proofs.Common.{sym, ap₂, ◌∙◌, inl, inr}
use mathlib.Core.List.{List, [], ◌∷◌, ◌++◌, append_assoc, append-nil}
use native.Mathlib.Omega.{arith}
use borrow.Author.Tests.{eq-eqb, ne_eqb, lt-ltb, eqb-true}
use Rattle.std.proofs.Math.ListN.{length, length-append, get_or}
use Rattle.std.proofs.Math.Seq.{take-append_seam, drop-append-add, get_or_at}
use Rattle.std.proofs.lemmas.List.{set_at}
use Rattle.names.specs.If.{if}
use Rattle.names.specs.Names.{is_name}
use Rattle.tokens.specs.declared.Label.TheVariants.{Mark}
use Rattle.tokens.specs.declared.Line.{Line}
use Rattle.behaviour.specs.declared.Message.{Message}
use Rattle.behaviour.specs.declared.Behaviour.{Behaviour}
use Rattle.behaviour.specs.Limits.{most_lines}
use Rattle.behaviour.specs.Pick.{unused}
use Rattle.behaviour.specs.Sound.{before}
use Rattle.behaviour.specs.Ordered.{not_back, not_alike}
use Rattle.aut.specs.Adding.{insert, has, add, add_message, check, check_message}
use Rattle.aut.specs.File.{Read, finish}
use Rattle.aut.specs.Contents.{judged}
use Rattle.writer.specs.Text.{message_line, mark_line, message_lines, after_state, lines_from}

-- the value with the messages a
abbrev pub holding : ℕ → List ℕ → List ℕ → List Message → Behaviour
holding s p q a = record { states = s; count = length a; marks = p; signs = q; messages = a ++ replicate (most_lines - length a) unused }

-- every one of a comes before m
abbrev pub Below : List Message → Message → Type 0
Below [] m = Unit {0}
Below (x ∷ a) m = (before x m ≡ true) × Below a m

-- behind a, the messages ascend
abbrev pub Ascend : List Message → List Message → Type 0
Ascend a [] = Unit {0}
Ascend a (m ∷ ms) = Below a m × Ascend (a ++ (m ∷ [])) ms

insert-last : (a : List Message) (m : Message) → Below a m → insert m a ≡ a ++ (m ∷ [])
unfolding insert
insert-last [] m h = refl
insert-last (x ∷ a) m h = rw (not_back x m h.0, insert-last a m h.1)

has-not : (a : List Message) (m : Message) → Below a m → has m.from m.name a ≡ false
unfolding has
has-not [] m h = refl
has-not (x ∷ a) m h = rw (not_alike x m h.0, has-not a m h.1)

pub rest-zero : (n : ℕ) → n < most_lines → drop 1 (replicate (most_lines - n) unused) ≡ replicate (most_lines - (n + 1)) unused
rest-zero n h = let e : 96 - n ≡ suc (most_lines - (n + 1)) = omega arith in rw e

module _ (s : ℕ) (p q : List ℕ) (a : List Message) (m : Message) (b : Below a m) (r : length a < most_lines) where
  message-step : (g : ℕ) → add_message (holding s p q a) g m ≡ holding s p (set q m.from g) (a ++ (m ∷ []))
  message-step g =
      let n : length (a ++ (m ∷ [])) ≡ length a + 1 = length-append a (m ∷ []) in
      rw (n, take-append_seam a (replicate (most_lines - length a) unused), drop-append-add a (replicate (most_lines - length a) unused) 1, rest-zero (length a) r, insert-last a m b)

  check-step : (o : ℕ) → (get_or q m.from 0 ≡ o → ⊥) → check_message (holding s p q a) m.from o m.name ≡ Ok tt
  check-step o h = rw (ne_eqb (get_or q m.from 0) o h, take-append_seam a (replicate (most_lines - length a) unused), has-not a m b)

  -- a message's line meets no refusal, and adds the message
  line_step : (g : ℕ) → (g ≡ 1) ⊎ (g ≡ 2) → (get_or q m.from 0 ≡ 0) ⊎ (get_or q m.from 0 ≡ g) → m.from < s → m.to < s
      → (check (holding s p q a) (message_line g m) ≡ Ok tt) × (add (holding s p q a) (message_line g m) ≡ holding s p (set q m.from g) (a ++ (m ∷ [])))
  unfolding check add
  line_step g (inl e) z f t = (
    rw (lt-ltb m.from s f, lt-ltb m.to s t, eq-eqb g 1 e) (check-step 2 (λ w. other z w)),
    rw (eq-eqb g 1 e) (message-step 1 ∙ ap (λ (x : ℕ). holding s p (set q m.from x) (a ++ (m ∷ []))) (sym e)),
  )
    where
      other : (get_or q m.from 0 ≡ 0) ⊎ (get_or q m.from 0 ≡ g) → get_or q m.from 0 ≡ 2 → ⊥
      other (inl u) w = omega arith
      other (inr u) w = omega arith
  line_step g (inr e) z f t = (
    rw (lt-ltb m.from s f, lt-ltb m.to s t, ne_eqb g 1 (omega arith)) (check-step 1 (λ w. other z w)),
    rw (ne_eqb g 1 (omega arith)) (message-step 2 ∙ ap (λ (x : ℕ). holding s p (set q m.from x) (a ++ (m ∷ []))) (sym e)),
  )
    where
      other : (get_or q m.from 0 ≡ 0) ⊎ (get_or q m.from 0 ≡ g) → get_or q m.from 0 ≡ 1 → ⊥
      other (inl u) w = omega arith
      other (inr u) w = omega arith

abbrev pub pick : Bool → Type 0 → Type 0 → Type 0
pick true a b = a
pick false a b = b

-- states in range, and a name
abbrev pub AllBetween : ℕ → List Message → Type 0
AllBetween s [] = Unit {0}
AllBetween s (m ∷ ms) = ((m.from < s) × (m.to < s) × (is_name m.name ≡ true)) × AllBetween s ms

-- the sign g of the state k: one of the two if a message of k stands first, else 0
abbrev pub Signed : ℕ → ℕ → List Message → Type 0
Signed k g [] = g ≡ 0
Signed k g (m ∷ ms) = pick (eqb m.from k) ((g ≡ 1) ⊎ (g ≡ 2)) (g ≡ 0)

-- marks mk and signs gs from the state k on, for s states and the messages ms from k on
abbrev pub Settled : ℕ → ℕ → List ℕ → List ℕ → List Message → Type 0
Settled s k [] [] ms = ms ≡ []
Settled s k [] (g ∷ gs) ms = ⊥
Settled s k (m ∷ mk) [] ms = ⊥
Settled s k (m ∷ mk) (g ∷ gs) ms = ((m ≡ 0) ⊎ ((m ≡ 1) × (k < s))) × Signed k g ms × Settled s (k + 1) mk gs (after_state k ms)

add_step : (b d : Behaviour) (l : Line) (ls : List Line) (x : Read) → (check b l ≡ Ok tt) × (add b l ≡ d) → ((p : ℕ) → judged p d ls ≡ x) → (p : ℕ) → judged p b (l ∷ ls) ≡ x
unfolding judged
add_step b d l ls x e k p = rw (e.0, e.1) (k (p + 1))

module _ (s k : ℕ) (p₀ q₀ r : List ℕ) (rest : List Line) (x : Read) (len : length q₀ ≡ k) where
  -- what comes after the messages of the state k
  abbrev Kont : ℕ → List Message → List Message → Type 0
  Kont g l t = (a : List Message) → a ++ t ≡ l → Ascend a t → AllBetween s t → (p : ℕ) → judged p (holding s p₀ (q₀ ++ g ∷ r) a) rest ≡ x

  one_message : (g q : ℕ) (m : Message) (ls : List Line) (a : List Message) → (g ≡ 1) ⊎ (g ≡ 2) → (q ≡ 0) ⊎ (q ≡ g) → m.from ≡ k
      → Below a m → length a < most_lines → m.from < s → m.to < s
      → ((p : ℕ) → judged p (holding s p₀ (q₀ ++ g ∷ r) (a ++ (m ∷ []))) ls ≡ x)
      → (p : ℕ) → judged p (holding s p₀ (q₀ ++ q ∷ r) a) (message_line g m ∷ ls) ≡ x
  one_message g q m ls a sg z e b n f t c =
      let w : length q₀ ≡ m.from = len ∙ sym e in
      let h : get_or (q₀ ++ q ∷ r) m.from 0 ≡ q = get_or_at q₀ q r 0 m.from w in
      let l = line_step s p₀ (q₀ ++ q ∷ r) a m b n g sg (was h z) f t in
      let o : set (q₀ ++ q ∷ r) m.from g ≡ q₀ ++ g ∷ r = set_at q₀ q r g m.from w in
      add_step (holding s p₀ (q₀ ++ q ∷ r) a) (holding s p₀ (q₀ ++ g ∷ r) (a ++ (m ∷ []))) (message_line g m) ls x
      (l.0, l.1 ∙ ap (λ (y : List ℕ). holding s p₀ y (a ++ (m ∷ []))) o) c
    where
      was : get_or (q₀ ++ q ∷ r) m.from 0 ≡ q → (q ≡ 0) ⊎ (q ≡ g) → (get_or (q₀ ++ q ∷ r) m.from 0 ≡ 0) ⊎ (get_or (q₀ ++ q ∷ r) m.from 0 ≡ g)
      was h (inl z) = inl (h ∙ z)
      was h (inr z) = inr (h ∙ z)

  heads_more : (g : ℕ) → (g ≡ 1) ⊎ (g ≡ 2) → (ms a : List Message) → Ascend a ms → AllBetween s ms → length a + length ms ≤ most_lines → Kont g (a ++ ms) (after_state k ms)
      → (p : ℕ) → judged p (holding s p₀ (q₀ ++ g ∷ r) a) (message_lines k g ms ++ rest) ≡ x
  unfolding message_lines after_state
  heads_more g sg [] a u v n c = c a refl tt tt
  heads_more g sg (m ∷ ms) a u v n c = go (eqb m.from k) refl c (λ h. heads_more g sg ms (a ++ (m ∷ [])) u.1 v.1 (fit) h)
    where
      fit : length (a ++ (m ∷ [])) + length ms ≤ most_lines
      fit = rw length-append (omega arith)

      go : (t : Bool) → eqb m.from k ≡ t → Kont g (a ++ m ∷ ms) (if t (after_state k ms) (m ∷ ms))
          → (Kont g ((a ++ (m ∷ [])) ++ ms) (after_state k ms) → (p : ℕ) → judged p (holding s p₀ (q₀ ++ g ∷ r) (a ++ (m ∷ []))) (message_lines k g ms ++ rest) ≡ x)
          → (p : ℕ) → judged p (holding s p₀ (q₀ ++ g ∷ r) a) (if t (message_line g m ∷ message_lines k g ms) [] ++ rest) ≡ x
      go true e c i =
          one_message g g m (message_lines k g ms ++ rest) a sg (inr refl) (eqb-true _ _ e) u.0 (omega arith) v.0.0 v.0.1
          (i (λ a' f. c a' (f ∙ append_assoc a (m ∷ []) ms)))
      go false e c i = c a refl u v

  state_added : (g : ℕ) (ms a : List Message) → Signed k g ms → Ascend a ms → AllBetween s ms → length a + length ms ≤ most_lines → Kont g (a ++ ms) (after_state k ms)
      → (p : ℕ) → judged p (holding s p₀ (q₀ ++ 0 ∷ r) a) (message_lines k g ms ++ rest) ≡ x
  unfolding message_lines after_state
  state_added g [] a o u v n c = λ p. subst (λ (y : ℕ). judged p (holding s p₀ (q₀ ++ y ∷ r) a) rest ≡ x) o (c a refl tt tt p)
  state_added g (m ∷ ms) a o u v n c = go (eqb m.from k) refl o c
    where
      fit : length (a ++ (m ∷ [])) + length ms ≤ most_lines
      fit = rw length-append (omega arith)

      go : (t : Bool) → eqb m.from k ≡ t → pick t ((g ≡ 1) ⊎ (g ≡ 2)) (g ≡ 0) → Kont g (a ++ m ∷ ms) (if t (after_state k ms) (m ∷ ms))
          → (p : ℕ) → judged p (holding s p₀ (q₀ ++ 0 ∷ r) a) (if t (message_line g m ∷ message_lines k g ms) [] ++ rest) ≡ x
      go true e o c =
          one_message g 0 m (message_lines k g ms ++ rest) a o (inl refl) (eqb-true _ _ e) u.0 (omega arith) v.0.0 v.0.1
          (heads_more g o ms (a ++ (m ∷ [])) u.1 v.1 fit (λ a' f. c a' (f ∙ append_assoc a (m ∷ []) ms)))
      go false e o c = λ p. subst (λ (y : ℕ). judged p (holding s p₀ (q₀ ++ y ∷ r) a) rest ≡ x) o (c a refl u v p)

module _ (s k : ℕ) (p₀ r q : List ℕ) (a : List Message) (rest : List Line) (x : Read) (len : length p₀ ≡ k) where
  free_mark : k < s → check (holding s (p₀ ++ 0 ∷ r) q a) (record { from = k; label = Mark; to = k }) ≡ Ok tt
  unfolding check
  free_mark f = rw (lt-ltb k s f, eq-eqb k k refl, get_or_at p₀ 0 r 0 k len)

  put-mark : (m : ℕ) → m ≡ 1 → add (holding s (p₀ ++ 0 ∷ r) q a) (record { from = k; label = Mark; to = k }) ≡ holding s (p₀ ++ m ∷ r) q a
  unfolding add
  put-mark m e = rw (set_at p₀ 0 r 1 k len, e)

  mark_added : (m : ℕ) → (m ≡ 0) ⊎ ((m ≡ 1) × (k < s)) → ((p : ℕ) → judged p (holding s (p₀ ++ m ∷ r) q a) rest ≡ x)
      → (p : ℕ) → judged p (holding s (p₀ ++ 0 ∷ r) q a) (mark_line k m ++ rest) ≡ x
  mark_added m (inl z) c p = rw (ne_eqb m 1 (omega arith)) (subst (λ (y : ℕ). judged p (holding s (p₀ ++ y ∷ r) q a) rest ≡ x) z (c p))
  mark_added m (inr z) c p =
      rw (eq-eqb m 1 z.0)
      (add_step (holding s (p₀ ++ 0 ∷ r) q a) (holding s (p₀ ++ m ∷ r) q a) (record { from = k; label = Mark; to = k }) rest x (free_mark z.1, put-mark m z.0) c p)

pub lines-rebuilt : (s : ℕ) (mk gs : List ℕ) (k : ℕ) (ms a : List Message) (p₀ q₀ : List ℕ) → length p₀ ≡ k → length q₀ ≡ k
    → Settled s k mk gs ms → Ascend a ms → AllBetween s ms → length a + length ms ≤ most_lines
    → (p : ℕ) → judged p (holding s (p₀ ++ replicate (length mk) 0) (q₀ ++ replicate (length gs) 0) a) (lines_from k mk gs ms) ≡ finish (holding s (p₀ ++ mk) (q₀ ++ gs) (a ++ ms))
unfolding lines_from judged
lines-rebuilt s [] [] k ms a p₀ q₀ lp lq o u v n = λ p. ap {B = Read} (λ (y : List Message). finish (holding s (p₀ ++ []) (q₀ ++ []) y)) (sym (append-nil a) ∙ ap (λ (y : List Message). a ++ y) (sym o))
lines-rebuilt s [] (g ∷ gs) k ms a p₀ q₀ lp lq o u v n = absurd o
lines-rebuilt s (m ∷ mk) [] k ms a p₀ q₀ lp lq o u v n = absurd o
lines-rebuilt s (m ∷ mk) (g ∷ gs) k ms a p₀ q₀ lp lq o u v n =
    mark_added s k p₀ (replicate (length mk) 0) (q₀ ++ 0 ∷ replicate (length gs) 0) a (message_lines k g ms ++ lines_from (k + 1) mk gs (after_state k ms)) x lp m o.0
    (state_added s k (p₀ ++ m ∷ replicate (length mk) 0) q₀ (replicate (length gs) 0) (lines_from (k + 1) mk gs (after_state k ms)) x lq g ms a o.1 u v n
    (λ a' e u' v' p. last a' e p (lines-rebuilt s mk gs (k + 1) (after_state k ms) a' (p₀ ++ (m ∷ [])) (q₀ ++ (g ∷ [])) (longer p₀ m lp) (longer q₀ g lq) o.2 u' v' (fit a' e) p)))
  where
    x : Read
    x = finish (holding s (p₀ ++ m ∷ mk) (q₀ ++ g ∷ gs) (a ++ ms))

    longer : (l : List ℕ) (y : ℕ) → length l ≡ k → length (l ++ (y ∷ [])) ≡ k + 1
    longer l y e = length-append l (y ∷ []) ∙ ap (λ (z : ℕ). z + 1) e

    fit : (a' : List Message) → a' ++ after_state k ms ≡ a ++ ms → length a' + length (after_state k ms) ≤ most_lines
    fit a' e = omega (arith, ap length e, length-append a' (after_state k ms), length-append a ms)

    last : (a' : List Message) → a' ++ after_state k ms ≡ a ++ ms → (p : ℕ)
        → judged p (holding s ((p₀ ++ (m ∷ [])) ++ replicate (length mk) 0) ((q₀ ++ (g ∷ [])) ++ replicate (length gs) 0) a') (lines_from (k + 1) mk gs (after_state k ms))
        ≡ finish (holding s ((p₀ ++ (m ∷ [])) ++ mk) ((q₀ ++ (g ∷ [])) ++ gs) (a' ++ after_state k ms))
        → judged p (holding s (p₀ ++ m ∷ replicate (length mk) 0) (q₀ ++ g ∷ replicate (length gs) 0) a') (lines_from (k + 1) mk gs (after_state k ms)) ≡ x
    last a' e p h =
        ap₂ {C = Read} (λ (y z : List ℕ). judged p (holding s y z a') (lines_from (k + 1) mk gs (after_state k ms)))
        (sym (append_assoc p₀ (m ∷ []) (replicate (length mk) 0))) (sym (append_assoc q₀ (g ∷ []) (replicate (length gs) 0)))
        ∙ h
        ∙ ap₂ {C = Read} (λ (y z : List ℕ). finish (holding s y z (a' ++ after_state k ms))) (append_assoc p₀ (m ∷ []) mk) (append_assoc q₀ (g ∷ []) gs)
        ∙ ap {B = Read} (λ (y : List Message). finish (holding s (p₀ ++ m ∷ mk) (q₀ ++ g ∷ gs) y)) e
