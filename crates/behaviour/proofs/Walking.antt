-- The pass over a value's messages: at each place, what is left to test and to note is what there was.
use mathlib.Core.Path.{◌≡◌, refl, sym, ◌∙◌}
use mathlib.Core.List.{List, [], ◌∷◌}
use mathlib.Core.Bool.{Bool, true, false, ◌&&◌, ◌||◌}
use Prim.Native.Nat.{ℕ, ◌+◌, ◌<◌, ◌≤◌}
use native.Mathlib.Omega.{arith}
use borrow.Author.Tests.{leb-true, ltb-false, lt-ltb, eq-eqb}
use lib.Dec.{leb, ltb, eqb}
use lib.ListN.{length, get_or, set, drop, replicate, length-set, length-replicate, drop_of_length-le}
use Rattle.names.specs.Tests.{both}
use Rattle.names.specs.Places.{here}
use Rattle.names.specs.Laws.{name-positive}
use Rattle.behaviour.specs.Limits.{most_states, most_lines}
use Rattle.behaviour.specs.declared.Message.{Message}
use Rattle.behaviour.specs.declared.Behaviour.{Behaviour}
use Rattle.behaviour.specs.Pick.{unused}
use Rattle.behaviour.specs.Spoken.{spoken, settled_by, settled-spoken}
use Rattle.behaviour.specs.Sound.{messages, before, between, all_between, sorted, all_blank, settled, total, sound}
use Rattle.behaviour.specs.SoundLaws.{between-parts}

-- each message by its own test and the one before it
unfoldable pub in_turn : ℕ → Message → List Message → Bool
in_turn s x [] = true
in_turn s x (m ∷ l) = (between s m && before x m) && in_turn s m l

sorted-turn : (s : ℕ) (x : Message) (l : List Message) → in_turn s x l ≡ (all_between s l && sorted (x ∷ l))
unfolding in_turn all_between sorted
sorted-turn s x [] = refl
sorted-turn s x (m ∷ l) = go (between s m) (before x m) (in_turn s m l) (all_between s l) (sorted (m ∷ l)) (sorted-turn s m l)
  where
    go : (a b i p q : Bool) → i ≡ (p && q) → ((a && b) && i) ≡ ((a && p) && (b && q))
    go true true i p q e = e
    go true false i true q e = refl
    go true false i false q e = refl
    go false b i p q e = refl

-- no name is 0, so the first message comes after an unused place
after-unused : (s : ℕ) (m : Message) → between s m ≡ true → before unused m ≡ true
after-unused s m e = go (ltb 0 m.from) refl
  where
    go : (t : Bool) → ltb 0 m.from ≡ t → (t || (eqb 0 m.from && ltb 0 m.name)) ≡ true
    go true q = refl
    go false q =
        let f : 0 ≡ m.from = omega (arith, ltb-false 0 m.from q) in
        let n : 0 < m.name = omega (arith, name-positive m.name (between-parts s m e).name) in
        rw (eq-eqb 0 m.from f, lt-ltb 0 m.name n)

first-turn : (s : ℕ) (l : List Message) → in_turn s unused l ≡ (all_between s l && sorted l)
unfolding in_turn all_between sorted
first-turn s [] = refl
first-turn s (m ∷ l) = go (between s m) refl (sorted-turn s m l)
  where
    go : (t : Bool) → between s m ≡ t → in_turn s m l ≡ (all_between s l && sorted (m ∷ l)) → ((t && before unused m) && in_turn s m l) ≡ ((t && all_between s l) && sorted (m ∷ l))
    go true q e = rw (after-unused s m q) e
    go false q e = refl

module _ (b : Behaviour) where
  -- S and T in range
  abbrev in_range : Bool
  in_range = leb 1 b.states && (leb b.states most_states && leb (b.count + total b.marks) most_lines)

  -- what is tested after the used messages
  abbrev unread : Bool
  unread = all_blank (drop b.count b.messages) && settled 0 b.marks b.signs (messages b)

  in_turns : sound b ≡ (in_range && (in_turn b.states unused (messages b) && unread))
  unfolding sound
  in_turns = rw (first-turn b.states (messages b)) (go (leb 1 b.states) (leb b.states most_states) (leb (b.count + total b.marks) most_lines) (all_between b.states (messages b)) (sorted (messages b)) unread)
    where
      go : (p q r u v w : Bool) → (p && (q && (r && (u && (v && w))))) ≡ ((p && (q && r)) && ((u && v) && w))
      go true true true true v w = refl
      go true true true false v w = refl
      go true true false u v w = refl
      go true false r u v w = refl
      go false q r u v w = refl

  -- place i of the used messages, with the one before it and the states noted so far
  pub record Walking (used : List Message) (table : List Bool) (last : Message) (i : ℕ) : Type 0 where
    pub all : used ≡ messages b
    pub says : sound b ≡ (in_turn b.states last (drop i used) && unread)
    pub notes : spoken (replicate most_states false) used ≡ spoken table (drop i used)
    pub width : length table ≡ most_states
    pub most : b.states ≤ most_states

  pub out_of_range : in_range ≡ false → false ≡ sound b
  out_of_range e = sym (in_turns ∙ rw e)

  pub walking_start : (used : List Message) → used ≡ messages b → in_range ≡ true → Walking used (replicate most_states false) unused 0
  walking_start used a e =
      let f = both (leb b.states most_states) _ (both (leb 1 b.states) _ e).1 in
      record {
        all = a;
        says = rw a (in_turns ∙ rw e);
        notes = refl;
        width = length-replicate {A = Bool} most_states false;
        most = leb-true b.states most_states f.0;
      }

module _ {b : Behaviour} {used : List Message} {table : List Bool} {last : Message} {i : ℕ} (w : Walking b used table last i) where
  module _ (h : i < length used) where
    abbrev m : Message
    m = get_or used i unused

    pub walking_no : (between b.states m && before last m) ≡ false → false ≡ sound b
    unfolding in_turn
    walking_no e = sym (w.says ∙ rw (here unused used i h, e))

    module _ (e : (between b.states m && before last m) ≡ true) where
      pub walking_from : m.from < most_states
      walking_from = omega (arith, (between-parts b.states m (both (between b.states m) _ e).0).from, w.most)

      pub walking_next : Walking b used (set table m.from true) m (i + 1)
      unfolding in_turn spoken
      walking_next = record {
        all = w.all;
        says = w.says ∙ rw (here unused used i h, e);
        notes = w.notes ∙ rw (here unused used i h);
        width = length-set table m.from true ∙ w.width;
        most = w.most;
      }

  pub walking_end : length used ≤ i → length b.marks ≡ most_states → (all_blank (drop b.count b.messages) && settled_by b.marks b.signs table) ≡ sound b
  unfolding in_turn spoken
  walking_end h k =
      let d = drop_of_length-le used h in
      let t : spoken (replicate most_states false) (messages b) ≡ table = rw (← w.all) (w.notes ∙ rw d) in
      sym (w.says ∙ rw (d, ← settled-spoken (messages b) b.marks b.signs k, t))
