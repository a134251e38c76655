-- Two lines, one after the other, that meet no refusal: in the other order they meet none either, and they add the same.
use Rattle.std.specs.Prelude.{◌≡◌, refl, Ok, List, ◌++◌, Bool, true, false, not, ℕ, suc, ◌+◌, ◌<◌, ◌≤◌, eqb, length, get_or, set, take, drop}
use Rattle.std.proofs.Common.{sym, ap, ◌∙◌, arith, eqb-true, eq-eqb, ne_eqb, length-append, length-drop, length-set, take_at, drop-drop, length-take-le, get_or-set_same, get_or-set_other}
use Rattle.std.proofs.lemmas.Bool.{false≢true, eqb-false}
use Rattle.std.proofs.Math.Seq.{drop-append-add}
use Rattle.std.proofs.lemmas.List.{set_comm}
use Rattle.names.specs.If.{if}
use Rattle.tokens.specs.declared.Label.{Label}
use Rattle.tokens.specs.declared.Line.{Line}
use Rattle.behaviour.specs.declared.Message.{Message}
use Rattle.behaviour.specs.declared.Behaviour.{Behaviour}
use Rattle.behaviour.specs.Limits.{most_states, most_lines}
use Rattle.behaviour.specs.Pick.{is}
use Rattle.behaviour.specs.Sound.{messages}
use Rattle.aut.specs.Adding.{insert, has, add, add_mark, add_message, check}
use Rattle.aut.specs.Inserting.{has-insert, length-insert, insert_swap}
use Rattle.aut.specs.Accepting.{sign_of, Kind, mark, message, other, kind, mark_line, said_line, said_message, Marks, Says, mark-taken, mark_checks, mark_adds, said-taken, said_checks, said_adds, other-refused}

-- a value with room for k lines more
pub record Open (k : ℕ) (b : Behaviour) : Type 0 where
  pub few_states : b.states ≤ most_states
  pub all-marks : length b.marks ≡ most_states
  pub all-signs : length b.signs ≡ most_states
  pub all-messages : length b.messages ≡ most_lines
  pub room : b.count + k ≤ most_lines

-- m put in among the first c of l
module _ (m : Message) (c : ℕ) (l : List Message) (h : c < length l) where
  put-length : length (insert m (take c l)) ≡ c + 1
  put-length = let e = length-take-le c l (omega arith) in omega (arith, length-insert m (take c l))

  put-used : take (c + 1) (insert m (take c l) ++ drop (c + 1) l) ≡ insert m (take c l)
  put-used = take_at (insert m (take c l)) (drop (c + 1) l) (c + 1) put-length

  put_rest : drop (c + 1 + 1) (insert m (take c l) ++ drop (c + 1) l) ≡ drop (c + 1 + 1) l
  put_rest =
      ap (λ (n : ℕ). drop (n + 1) (insert m (take c l) ++ drop (c + 1) l)) (sym put-length)
      ∙ drop-append-add (insert m (take c l)) (drop (c + 1) l) 1
      ∙ drop-drop 1 (c + 1) l

  put_all : length (insert m (take c l) ++ drop (c + 1) l) ≡ length l
  put_all = omega (arith, length-append (insert m (take c l)) (drop (c + 1) l), put-length, length-drop (c + 1) l)

-- a line that meets no refusal leaves room for one less
open_kind : (k : ℕ) (b : Behaviour) (f g : ℕ) {x : Label} → Kind x → Open (suc k) b → check b (record { from = f; label = x; to = g }) ≡ Ok tt
    → Open k (add b (record { from = f; label = x; to = g }))
open_kind k b f g mark o e =
    rw (mark_adds b f g)
    (record {
      few_states = o.few_states;
      all-marks = length-set b.marks f 1 ∙ o.all-marks;
      all-signs = o.all-signs;
      all-messages = o.all-messages;
      room = let r = o.room in omega arith;
    })
open_kind k b f g (message t n) o e =
    let m = said_message n f g in
    let r = o.room in
    let a = o.all-messages in
    rw (said_adds b n f g t)
    (record {
      few_states = o.few_states;
      all-marks = o.all-marks;
      all-signs = length-set b.signs f (sign_of t) ∙ o.all-signs;
      all-messages = put_all m b.count b.messages (omega arith) ∙ a;
      room = omega arith;
    })
open_kind k b f g other o e = absurd (other-refused b f g e)

pub open_add : (k : ℕ) (b : Behaviour) (l : Line) → Open (suc k) b → check b l ≡ Ok tt → Open k (add b l)
open_add k b l o e = open_kind k b l.from l.to (kind l.label) o e

eqb-sym : (a b : ℕ) → eqb a b ≡ eqb b a
eqb-sym a b = go (eqb b a) refl
  where
    go : (t : Bool) → eqb b a ≡ t → eqb a b ≡ t
    go true e = eq-eqb a b (sym (eqb-true b a e))
    go false e = ne_eqb a b (λ z. eqb-false b a e (sym z))

-- two signs, one at each of two states, or the same at one state
sign_swap : (l : List ℕ) (f k x y : ℕ) → (f ≡ k → x ≡ y) → set (set l f x) k y ≡ set (set l k y) f x
sign_swap l f k x y h = go (eqb f k) refl
  where
    go : (t : Bool) → eqb f k ≡ t → set (set l f x) k y ≡ set (set l k y) f x
    go true e = let i : f ≡ k = eqb-true f k e in let j : x ≡ y = h i in rw (i, j)
    go false e = set_comm l f k x y (eqb-false f k e)

if-false : (s t : Bool) → if s true t ≡ false → (s ≡ false) × (t ≡ false)
if-false true t e = absurd (false≢true (sym e))
if-false false t e = (refl, e)

same_sign : (t u : Bool) → (sign_of t ≡ sign_of (not u) → ⊥) → t ≡ u
same_sign true true h = refl
same_sign true false h = absurd (h refl)
same_sign false true h = absurd (h refl)
same_sign false false h = refl

signs-differ : (t : Bool) → sign_of t ≡ sign_of (not t) → ⊥
signs-differ true e = omega arith
signs-differ false e = omega arith

-- l and then m, at b, in the other order
pub record Swapped (b : Behaviour) (l m : Line) : Type 0 where
  pub first : check b m ≡ Ok tt
  pub then : check (add b m) l ≡ Ok tt
  pub same : add (add b m) l ≡ add (add b l) m

-- two marks
module _ (b : Behaviour) (f g k j : ℕ) (o : Open 2 b) where
  mark-mark : Marks b f g → Marks (add_mark b f) k j → Swapped b (mark_line f g) (mark_line k j)
  mark-mark p q =
      let low = p.from_low in
      let few = o.few_states in
      let all = o.all-marks in
      let differ : f ≡ k → ⊥ = λ e.
      let z : get_or (set b.marks f 1) f 0 ≡ 0 = ap (λ (x : ℕ). get_or (set b.marks f 1) x 0) e ∙ q.unmarked in
      omega (arith, get_or-set_same b.marks f 1 0 (omega arith)) in
      let back : k ≡ f → ⊥ = λ e. differ (sym e) in
      let free : get_or b.marks k 0 ≡ 0 = sym (get_or-set_other b.marks f k 1 0 back) ∙ q.unmarked in
      let m : Marks b k j = record { from_low = q.from_low; to_low = q.to_low; loops = q.loops; unmarked = free } in
      let l : Marks (add_mark b k) f g = record { from_low = p.from_low; to_low = p.to_low; loops = p.loops; unmarked = get_or-set_other b.marks k f 1 0 differ ∙ p.unmarked } in
      record {
        first = mark_checks b k j m;
        then = rw (mark_adds b k j) (mark_checks (add_mark b k) f g l);
        same = rw (mark_adds b k j, mark_adds b f g, mark_adds (add_mark b k) f g, mark_adds (add_mark b f) k j, set_comm b.marks k f 1 1 back);
      }

-- a mark and a message: neither is looked at for the other
module _ (b : Behaviour) (t : Bool) (n f g k j : ℕ) where
  mark-said : Marks b f g → Says (add_mark b f) t n k j → Swapped b (mark_line f g) (said_line t n k j)
  mark-said p q =
      let m : Says b t n k j = record { from_low = q.from_low; to_low = q.to_low; one_sign = q.one_sign; new_name = q.new_name } in
      let after = add_message b (sign_of t) (said_message n k j) in
      let l : Marks after f g = record { from_low = p.from_low; to_low = p.to_low; loops = p.loops; unmarked = p.unmarked } in
      record {
        first = said_checks b n k j t m;
        then = rw (said_adds b n k j t) (mark_checks after f g l);
        same = rw (said_adds b n k j t, mark_adds b f g, mark_adds after f g, said_adds (add_mark b f) n k j t);
      }

  said-mark : Says b t n k j → Marks (add_message b (sign_of t) (said_message n k j)) f g → Swapped b (said_line t n k j) (mark_line f g)
  said-mark p q =
      let m : Marks b f g = record { from_low = q.from_low; to_low = q.to_low; loops = q.loops; unmarked = q.unmarked } in
      let l : Says (add_mark b f) t n k j = record { from_low = p.from_low; to_low = p.to_low; one_sign = p.one_sign; new_name = p.new_name } in
      record {
        first = mark_checks b f g m;
        then = rw (mark_adds b f g) (said_checks (add_mark b f) n k j t l);
        same = rw (mark_adds b f g, said_adds b n k j t, said_adds (add_mark b f) n k j t, mark_adds (add_message b (sign_of t) (said_message n k j)) f g);
      }

-- two messages
module _ (b : Behaviour) (t u : Bool) (n f g m k j : ℕ) (o : Open 2 b)
    (p : Says b t n f g) (q : Says (add_message b (sign_of t) (said_message n f g)) u m k j) where
  here-room : b.count < length b.messages
  here-room = let r = o.room in let a = o.all-messages in omega arith

  state-room : f < length b.signs
  state-room = let r = o.few_states in let a = o.all-signs in let l = p.from_low in omega arith

  state-room_2 : k < length b.signs
  state-room_2 = let r = o.few_states in let a = o.all-signs in let l = q.from_low in omega arith

  -- at one state the signs are the same
  agree : f ≡ k → t ≡ u
  agree e = same_sign t u (λ z. q.one_sign (ap (λ (x : ℕ). get_or (set b.signs f (sign_of t)) x 0) (sym e) ∙ get_or-set_same b.signs f (sign_of t) 0 state-room ∙ z))

  -- the second was not there before the first
  apart : (is k m (said_message n f g) ≡ false) × (has k m (messages b) ≡ false)
  apart =
      if-false (is k m (said_message n f g)) (has k m (messages b))
      (sym (has-insert k m (said_message n f g) (messages b))
      ∙ ap (has k m) (sym (put-used (said_message n f g) b.count b.messages here-room))
      ∙ q.new_name)

  apart_2 : is f n (said_message m k j) ≡ false
  apart_2 = rw (eqb-sym k f, eqb-sym m n) apart.0

  second : Says b u m k j
  second = record { from_low = q.from_low; to_low = q.to_low; one_sign = go (eqb f k) refl; new_name = apart.1 }
    where
      go : (z : Bool) → eqb f k ≡ z → get_or b.signs k 0 ≡ sign_of (not u) → ⊥
      go true e h =
          let i : f ≡ k = eqb-true f k e in
          p.one_sign (ap (λ (x : ℕ). get_or b.signs x 0) i ∙ h ∙ ap (λ (x : Bool). sign_of (not x)) (sym (agree i)))
      go false e h = q.one_sign (get_or-set_other b.signs f k (sign_of t) 0 (λ z. eqb-false f k e (sym z)) ∙ h)

  first-after : Says (add_message b (sign_of u) (said_message m k j)) t n f g
  first-after = record { from_low = p.from_low; to_low = p.to_low; one_sign = go (eqb f k) refl; new_name = there }
    where
      go : (z : Bool) → eqb f k ≡ z → get_or (set b.signs k (sign_of u)) f 0 ≡ sign_of (not t) → ⊥
      go true e h =
          let i : f ≡ k = eqb-true f k e in
          let a : sign_of u ≡ get_or (set b.signs k (sign_of u)) f 0 =
          sym (get_or-set_same b.signs k (sign_of u) 0 state-room_2) ∙ ap (λ (x : ℕ). get_or (set b.signs k (sign_of u)) x 0) (sym i) in
          signs-differ u (a ∙ h ∙ ap (λ (x : Bool). sign_of (not x)) (agree i))
      go false e h = p.one_sign (sym (get_or-set_other b.signs k f (sign_of u) 0 (eqb-false f k e)) ∙ h)

      there : has f n (messages (add_message b (sign_of u) (said_message m k j))) ≡ false
      there =
          ap (has f n) (put-used (said_message m k j) b.count b.messages here-room)
          ∙ has-insert f n (said_message m k j) (messages b) ∙ rw (apart_2) p.new_name

  adds_same : add_message (add_message b (sign_of u) (said_message m k j)) (sign_of t) (said_message n f g)
      ≡ add_message (add_message b (sign_of t) (said_message n f g)) (sign_of u) (said_message m k j)
  adds_same =
      let one = said_message n f g in
      let two = said_message m k j in
      rw (
        put-used one b.count b.messages here-room,
        put_rest one b.count b.messages here-room,
        put-used two b.count b.messages here-room,
        put_rest two b.count b.messages here-room,
        insert_swap one two (messages b) apart_2 p.new_name apart.1,
        sign_swap b.signs f k (sign_of t) (sign_of u) (λ e. ap sign_of (agree e)),
      )

  said-said : Swapped b (said_line t n f g) (said_line u m k j)
  said-said = record {
    first = said_checks b m k j u second;
    then = rw (said_adds b m k j u) (said_checks (add_message b (sign_of u) (said_message m k j)) n f g t first-after);
    same = rw (said_adds b m k j u, said_adds b n f g t, said_adds (add_message b (sign_of u) (said_message m k j)) n f g t, said_adds (add_message b (sign_of t) (said_message n f g)) m k j u)
        adds_same;
  }

by_kinds : (b : Behaviour) (f g k j : ℕ) {x y : Label} → Kind x → Kind y → Open 2 b
    → check b (record { from = f; label = x; to = g }) ≡ Ok tt
    → check (add b (record { from = f; label = x; to = g })) (record { from = k; label = y; to = j }) ≡ Ok tt
    → Swapped b (record { from = f; label = x; to = g }) (record { from = k; label = y; to = j })
by_kinds b f g k j mark mark o p q = mark-mark b f g k j o (mark-taken b f g p) (mark-taken (add_mark b f) k j (rw (mark_adds b f g) at q))
by_kinds b f g k j mark (message u m) o p q = mark-said b u m f g k j (mark-taken b f g p) (said-taken (add_mark b f) m k j u (rw (mark_adds b f g) at q))
by_kinds b f g k j (message t n) mark o p q =
    said-mark b t n k j f g (said-taken b n f g t p) (mark-taken (add_message b (sign_of t) (said_message n f g)) k j (rw (said_adds b n f g t) at q))
by_kinds b f g k j (message t n) (message u m) o p q =
    said-said b t u n f g m k j o (said-taken b n f g t p) (said-taken (add_message b (sign_of t) (said_message n f g)) m k j u (rw (said_adds b n f g t) at q))
by_kinds b f g k j other y o p q = absurd (other-refused b f g p)
by_kinds b f g k j {x} mark other o p q = absurd (other-refused (add b (mark_line f g)) k j q)
by_kinds b f g k j (message t n) other o p q = absurd (other-refused (add b (said_line t n f g)) k j q)

pub swapped : (b : Behaviour) (l m : Line) → Open 2 b → check b l ≡ Ok tt → check (add b l) m ≡ Ok tt → Swapped b l m
swapped b l m o p q = by_kinds b l.from l.to m.from m.to (kind l.label) (kind m.label) o p q
