-- What a sound value (01's refusal 13) has, for the crates above.
use Rattle.std.specs.Prelude.{◌≡◌, refl, List, [], ◌∷◌, Bool, true, false, ◌&&◌, ◌||◌, not, ℕ, zero, suc, ◌+◌, ◌*◌, ◌<◌, ◌≤◌, leb, ltb, eqb, length, get_or, drop}
use Rattle.std.proofs.Common.{sym, ◌∙◌, ⊎_elim, arith, mul-le-mul, ltb-true, leb-true, eqb-true, ltb-false, le-leb, eq-eqb}
use Rattle.std.proofs.lemmas.Bool.{eqb-false, not-true}
use Rattle.std.proofs.Math.ListN.{get_or-eq_default}
use Rattle.names.specs.If.{if}
use Rattle.names.specs.Names.{is_name}
use Rattle.names.specs.Tests.{both}
pub use Rattle.names.specs.Tests.{no}
use Rattle.behaviour.specs.Limits.{most_states, most_lines}
use Rattle.behaviour.specs.Pick.{unused}
use Rattle.behaviour.specs.Ordered.{less, before_trans}
use Rattle.behaviour.specs.declared.Message.{Message}
use Rattle.behaviour.specs.declared.Behaviour.{Behaviour}
use Rattle.behaviour.specs.Sound.{messages, before, sorted, between, all_between, all_blank, speaks, signed, markable, settled, total, sound}

-- the lengths of a value's arrays: the code has them of every value, `sound` does not speak of them
pub record Sized (b : Behaviour) : Type 0 where
  pub marks : length b.marks ≡ most_states
  pub signs : length b.signs ≡ most_states
  pub messages : length b.messages ≡ most_lines

-- the tests of `sound`, one by one
pub record Parts (b : Behaviour) : Type 0 where
  pub some-state : 1 ≤ b.states
  pub most-states : b.states ≤ most_states
  pub most-lines : b.count + total b.marks ≤ most_lines
  pub between : all_between b.states (messages b) ≡ true
  pub sorted : sorted (messages b) ≡ true
  pub blank : all_blank (drop b.count b.messages) ≡ true
  pub settled : settled 0 b.marks b.signs (messages b) ≡ true

pub parts : (b : Behaviour) → sound b ≡ true → Parts b
unfolding sound
parts b e =
    let f = both (leb 1 b.states) _ e in
    let g = both (leb b.states most_states) _ f.1 in
    let h = both (leb (b.count + total b.marks) most_lines) _ g.1 in
    let i = both (all_between b.states (messages b)) _ h.1 in
    let j = both (sorted (messages b)) _ i.1 in
    let k = both (all_blank (drop b.count b.messages)) _ j.1 in
    record {
      some-state = leb-true 1 b.states f.0;
      most-states = leb-true b.states most_states g.0;
      most-lines = leb-true (b.count + total b.marks) most_lines h.0;
      between = i.0;
      sorted = j.0;
      blank = k.0;
      settled = k.1;
    }

pub whole : (b : Behaviour) → Parts b → sound b ≡ true
unfolding sound
whole b p =
    rw (
      le-leb 1 b.states p.some-state,
      le-leb b.states most_states p.most-states,
      le-leb (b.count + total b.marks) most_lines p.most-lines,
      p.between,
      p.sorted,
      p.blank,
    ) p.settled

-- every used message: its states are below s, and its name is a name
pub record Between (s : ℕ) (m : Message) : Type 0 where
  pub from : m.from < s
  pub to : m.to < s
  pub name : is_name m.name ≡ true

pub between-parts : (s : ℕ) (m : Message) → between s m ≡ true → Between s m
between-parts s m e =
    let f = both (ltb m.from s) _ e in
    let g = both (ltb m.to s) (is_name m.name) f.1 in
    record { from = ltb-true m.from s f.0; to = ltb-true m.to s g.0; name = g.1 }

pub between-at : (s : ℕ) (l : List Message) → all_between s l ≡ true → (i : ℕ) → i < length l → Between s (get_or l i unused)
unfolding all_between
between-at s [] e i h = absurd (omega arith)
between-at s (m ∷ l) e zero h = between-parts s m (both (between s m) _ e).0
between-at s (m ∷ l) e (suc i) h = between-at s l (both (between s m) _ e).1 i (omega arith)

-- the order of the used messages: each comes before all that follow
pub before-cases : (a b : Message) {A : Type 0} → before a b ≡ true → (a.from < b.from → A) → (a.from ≡ b.from → a.name < b.name → A) → A
before-cases a b e f g = ⊎_elim f (λ h. g h.0 h.1) (less a b e)

pub sorted-at : (l : List Message) → sorted l ≡ true → (i j : ℕ) → i < j → j < length l → before (get_or l i unused) (get_or l j unused) ≡ true
unfolding sorted
sorted-at [] e i j h k = absurd (omega arith)
sorted-at (m ∷ l) e i zero h k = absurd (omega arith)
sorted-at (m ∷ []) e i (suc j) h k = absurd (omega arith)
sorted-at (m ∷ x ∷ l) e zero (suc zero) h k = (both (before m x) _ e).0
sorted-at (m ∷ x ∷ l) e zero (suc (suc j)) h k =
    let f = both (before m x) _ e in
    before_trans m x (get_or l j unused) f.0 (sorted-at (x ∷ l) f.1 0 (suc j) (omega arith) (omega arith))
sorted-at (m ∷ x ∷ l) e (suc i) (suc j) h k = sorted-at (x ∷ l) (both (before m x) _ e).1 i j (omega arith) (omega arith)

-- a state speaks exactly if some message is from it
pub speaks-from : (k : ℕ) (l : List Message) → speaks k l ≡ true → (i : ℕ) × (i < length l) × ((get_or l i unused).from ≡ k)
unfolding speaks
speaks-from k [] e = no e
speaks-from k (m ∷ l) e = go (eqb m.from k) refl e (speaks-from k l)
  where
    go : (t : Bool) → eqb m.from k ≡ t → (t || speaks k l) ≡ true → (speaks k l ≡ true → (i : ℕ) × (i < length l) × ((get_or l i unused).from ≡ k))
        → (i : ℕ) × (i < length (m ∷ l)) × ((get_or (m ∷ l) i unused).from ≡ k)
    go true q e r = (0, omega arith, eqb-true m.from k q)
    go false q e r = let f = r e in (suc f.0, omega (arith, f.1), f.2)

pub from-speaks : (l : List Message) (i : ℕ) → i < length l → speaks (get_or l i unused).from l ≡ true
unfolding speaks
from-speaks [] i h = absurd (omega arith)
from-speaks (m ∷ l) zero h = rw (eq-eqb m.from m.from refl)
from-speaks (m ∷ l) (suc i) h = go (eqb m.from (get_or l i unused).from) (from-speaks l i (omega arith))
  where
    go : (t : Bool) → speaks (get_or l i unused).from l ≡ true → (t || speaks (get_or l i unused).from l) ≡ true
    go true e = refl
    go false e = e

-- each state by its mark and its sign
settled_at : (l : List Message) (ms gs : List ℕ) (k i : ℕ) → settled k ms gs l ≡ true → i < length ms → i < length gs
    → (signed (speaks (k + i) l) (get_or gs i 0) ≡ true) × (markable (get_or ms i 0) (get_or gs i 0) ≡ true)
unfolding settled
settled_at l [] gs k i e h j = absurd (omega arith)
settled_at l (m ∷ ms) [] k i e h j = absurd (omega arith)
settled_at l (m ∷ ms) (g ∷ gs) k zero e h j =
    let f = both (signed (speaks k l) g) _ e in
    let q : k + 0 ≡ k = omega arith in
    (rw q f.0, (both (markable m g) _ f.1).0)
settled_at l (m ∷ ms) (g ∷ gs) k (suc i) e h j =
    let f = both (markable m g) _ (both (signed (speaks k l) g) _ e).1 in
    let q : k + suc i ≡ (k + 1) + i = omega arith in
    rw q (settled_at l ms gs (k + 1) i f.1 (omega arith) (omega arith))

signed_of : (t : Bool) (g : ℕ) → signed t g ≡ true → (g ≤ 2) × (g ≡ 0 → t ≡ false) × (t ≡ false → g ≡ 0)
signed_of true g e = go (eqb g 1) refl e
  where
    go : (u : Bool) → eqb g 1 ≡ u → (u || eqb g 2) ≡ true → (g ≤ 2) × (g ≡ 0 → true ≡ false) × (true ≡ false → g ≡ 0)
    go true q e = let f : g ≡ 1 = eqb-true g 1 q in (omega arith, λ h. absurd (omega arith), λ h. no (sym h))
    go false q e = let f : g ≡ 2 = eqb-true g 2 e in (omega arith, λ h. absurd (omega arith), λ h. no (sym h))
signed_of false g e = let f : g ≡ 0 = eqb-true g 0 e in (omega arith, λ h. refl, λ h. f)

markable_of : (m g : ℕ) → markable m g ≡ true → (m ≤ 1) × (m ≡ 1 → g ≡ 0 → ⊥)
markable_of m g e = go (eqb m 0) refl e
  where
    go : (t : Bool) → eqb m 0 ≡ t → (t || (eqb m 1 && not (eqb g 0))) ≡ true → (m ≤ 1) × (m ≡ 1 → g ≡ 0 → ⊥)
    go true q e = let f : m ≡ 0 = eqb-true m 0 q in (omega arith, λ h k. omega arith)
    go false q e =
        let f = both (eqb m 1) _ e in
        let h : m ≡ 1 = eqb-true m 1 f.0 in
        (omega arith, λ _ k. eqb-false g 0 (not-true (eqb g 0) f.1) k)

pub total-most : (l : List ℕ) → total l ≤ length l
unfolding total
total-most [] = omega arith
total-most (m ∷ l) = go (eqb m 1) (total-most l)
  where
    go : (b : Bool) → total l ≤ length l → if b (suc (total l)) (total l) ≤ suc (length l)
    go true r = omega arith
    go false r = omega arith

-- a sound value of the code's lengths, state by state
module _ (b : Behaviour) (z : Sized b) (p : Parts b) where
  at : (x : ℕ) → x < most_states → (signed (speaks x (messages b)) (get_or b.signs x 0) ≡ true) × (markable (get_or b.marks x 0) (get_or b.signs x 0) ≡ true)
  at x h =
      let i : x < length b.marks = omega (arith, z.marks) in
      let j : x < length b.signs = omega (arith, z.signs) in
      let q : 0 + x ≡ x = omega arith in
      rw q at (settled_at (messages b) b.marks b.signs 0 x p.settled i j)

  -- past the last state there is no entry
  past : (l : List ℕ) (x : ℕ) → length l ≡ most_states → most_states ≤ x → get_or l x 0 ≡ 0
  past l x e h = get_or-eq_default l 0 (omega arith)

  pub speaking_below : (x : ℕ) → speaks x (messages b) ≡ true → x < b.states
  speaking_below x e =
      let f = speaks-from x (messages b) e in
      omega (arith, f.2, (between-at b.states (messages b) p.between f.0 f.1).from)

  -- the sign is 1 or 2 at a state with a message, and 0 at a finished one
  pub sign-most : (x : ℕ) → get_or b.signs x 0 ≤ 2
  sign-most x = go (ltb x most_states) refl
    where
      go : (t : Bool) → ltb x most_states ≡ t → get_or b.signs x 0 ≤ 2
      go true q = (signed_of (speaks x (messages b)) (get_or b.signs x 0) (at x (ltb-true x most_states q)).0).0
      go false q = omega (arith, past b.signs x z.signs (ltb-false x most_states q))

  pub sign-none : (x : ℕ) → get_or b.signs x 0 ≡ 0 → speaks x (messages b) ≡ false
  sign-none x e = go (speaks x (messages b)) refl
    where
      go : (t : Bool) → speaks x (messages b) ≡ t → t ≡ false
      go false q = refl
      go true q =
          sym q ∙ (signed_of (speaks x (messages b)) (get_or b.signs x 0) (at x (omega (arith, speaking_below x q, p.most-states))).0).1 e

  pub none-sign : (x : ℕ) → speaks x (messages b) ≡ false → get_or b.signs x 0 ≡ 0
  none-sign x e = go (ltb x most_states) refl
    where
      go : (t : Bool) → ltb x most_states ≡ t → get_or b.signs x 0 ≡ 0
      go true q = (signed_of (speaks x (messages b)) (get_or b.signs x 0) (at x (ltb-true x most_states q)).0).2 e
      go false q = past b.signs x z.signs (ltb-false x most_states q)

  pub sign_below : (x : ℕ) → (get_or b.signs x 0 ≡ 0 → ⊥) → x < b.states
  sign_below x h = go (speaks x (messages b)) refl
    where
      go : (t : Bool) → speaks x (messages b) ≡ t → x < b.states
      go true q = speaking_below x q
      go false q = absurd (h (none-sign x q))

  -- a mark is 0 or 1; a marked state is a state, and not a finished one
  pub mark-most : (x : ℕ) → get_or b.marks x 0 ≤ 1
  mark-most x = go (ltb x most_states) refl
    where
      go : (t : Bool) → ltb x most_states ≡ t → get_or b.marks x 0 ≤ 1
      go true q = (markable_of (get_or b.marks x 0) (get_or b.signs x 0) (at x (ltb-true x most_states q)).1).0
      go false q = omega (arith, past b.marks x z.marks (ltb-false x most_states q))

  pub mark-sign : (x : ℕ) → get_or b.marks x 0 ≡ 1 → get_or b.signs x 0 ≡ 0 → ⊥
  mark-sign x e = go (ltb x most_states) refl
    where
      go : (t : Bool) → ltb x most_states ≡ t → get_or b.signs x 0 ≡ 0 → ⊥
      go true q = (markable_of (get_or b.marks x 0) (get_or b.signs x 0) (at x (ltb-true x most_states q)).1).1 e
      go false q = λ _. omega (arith, past b.marks x z.marks (ltb-false x most_states q), e)

  pub mark-below : (x : ℕ) → get_or b.marks x 0 ≡ 1 → x < b.states
  mark-below x e = sign_below x (mark-sign x e)

  -- "at most 110": states and return points of one side
  pub side-most : b.states * suc (total b.marks) ≤ 110
  side-most =
      let t : suc (total b.marks) ≤ 11 = omega (arith, total-most b.marks, z.marks) in
      mul-le-mul p.most-states t
