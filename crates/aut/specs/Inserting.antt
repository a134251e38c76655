-- Laws of `insert`: two messages go in in either order, and those that were there are still there.
use Rattle.std.specs.Prelude.{◌≡◌, refl, List, [], ◌∷◌, Bool, true, false, ℕ, suc, length}
use Rattle.std.proofs.Common.{sym, ap, ◌∙◌}
use Rattle.names.specs.If.{if}
use Rattle.names.specs.Tests.{no}
use Rattle.behaviour.specs.declared.Message.{Message}
use Rattle.behaviour.specs.Pick.{is}
use Rattle.behaviour.specs.Sound.{before}
use Rattle.behaviour.specs.Ordered.{before_trans, not_back, alike, one_first}
use Rattle.aut.specs.Adding.{insert, has}

-- a message that is not there is not the first, and not among the others
pub not_there : (f n : ℕ) (x : Message) (l : List Message) → has f n (x ∷ l) ≡ false → (is f n x ≡ false) × (has f n l ≡ false)
unfolding has
not_there f n x l e = go (is f n x) e
  where
    go : (t : Bool) → if t true (has f n l) ≡ false → (t ≡ false) × (has f n l ≡ false)
    go true h = no (sym h)
    go false h = (refl, h)

if-if : (s t r : Bool) → if s true (if t true r) ≡ if t true (if s true r)
if-if true true r = refl
if-if true false r = refl
if-if false t r = refl

-- what is there after `insert`
pub has-insert : (f n : ℕ) (m : Message) (l : List Message) → has f n (insert m l) ≡ if (is f n m) true (has f n l)
unfolding has insert
has-insert f n m [] = refl
has-insert f n m (x ∷ l) = go (before m x) (has-insert f n x l) (has-insert f n m l)
  where
    go : (t : Bool) → has f n (insert x l) ≡ if (is f n x) true (has f n l) → has f n (insert m l) ≡ if (is f n m) true (has f n l)
        → has f n (if t (m ∷ insert x l) (x ∷ insert m l)) ≡ if (is f n m) true (if (is f n x) true (has f n l))
    go true p q = ap (λ (z : Bool). if (is f n m) true z) p
    go false p q = ap (λ (z : Bool). if (is f n x) true z) q ∙ if-if (is f n x) (is f n m) (has f n l)

pub length-insert : (m : Message) (l : List Message) → length (insert m l) ≡ suc (length l)
unfolding insert
length-insert m [] = refl
length-insert m (x ∷ l) = go (before m x) (length-insert x l) (length-insert m l)
  where
    go : (t : Bool) → length (insert x l) ≡ suc (length l) → length (insert m l) ≡ suc (length l)
        → length (if t (m ∷ insert x l) (x ∷ insert m l)) ≡ suc (suc (length l))
    go true p q = ap suc p
    go false p q = ap suc q

-- a before b: they go in in either order, if b is not there yet
insert-ahead : (a b : Message) (l : List Message) → before a b ≡ true → has b.from b.name l ≡ false
    → insert a (insert b l) ≡ insert b (insert a l)
unfolding insert
insert-ahead a b [] e n = rw (e, not_back a b e)
insert-ahead a b (x ∷ l) e n =
    go (before a x) (before b x) refl refl (λ h. insert-ahead a b l e h) (λ h k. insert-ahead x b l h k) (not_there b.from b.name x l n)
  where
    go : (s t : Bool) → before a x ≡ s → before b x ≡ t
        → (has b.from b.name l ≡ false → insert a (insert b l) ≡ insert b (insert a l))
        → (before x b ≡ true → has b.from b.name l ≡ false → insert x (insert b l) ≡ insert b (insert x l))
        → (alike b x ≡ false) × (has b.from b.name l ≡ false)
        → insert a (if t (b ∷ insert x l) (x ∷ insert b l)) ≡ insert b (if s (a ∷ insert x l) (x ∷ insert a l))
    go true true p q i j h = rw (e, not_back a b e)
    go true false p q i j h = rw (p, not_back a b e) (ap (λ (z : List Message). a ∷ z) (j (one_first b x h.0 q) h.1))
    go false true p q i j h = no (sym p ∙ before_trans a b x e q)
    go false false p q i j h = rw (p, q) (ap (λ (z : List Message). x ∷ z) (i h.1))

pub insert_swap : (a b : Message) (l : List Message) → alike a b ≡ false → has a.from a.name l ≡ false → has b.from b.name l ≡ false
    → insert a (insert b l) ≡ insert b (insert a l)
insert_swap a b l d p q = go (before a b) refl
  where
    go : (t : Bool) → before a b ≡ t → insert a (insert b l) ≡ insert b (insert a l)
    go true e = insert-ahead a b l e q
    go false e = sym (insert-ahead b a l (one_first a b d e) p)
