-- What moves by the steps alone and never comes to a bad stand meets demand 3.
use Rattle.std.specs.Prelude.{◌≡◌, Bool, true, false, List, ℕ, Option, None, Some}
use Rattle.std.proofs.Math.Path.{refl, ap}
use Rattle.std.proofs.Common.{◌∙◌, subst, arith}
use Rattle.history.specs.Calls.{Call, message, rollback, Calls, opening, ◌then◌}
use Rattle.history.specs.Side.{Side}
use Rattle.history.specs.Point.{Back, point-opening, point-message, point-refused, point-back, point_one}
use Rattle.history.specs.Demand.{Seen, ClientPoint, ServerPoint, Sendable, Demand}
use Rattle.history.specs.Played.{Standing, has, or_else, session, seen}
use Rattle.history.specs.Meets.{Steps}

none_has : {A : Type 0} (o : Option A) → has o ≡ false → o ≡ None
none_has None e = refl
none_has (Some a) e = absurd (let z : ◌≡◌ {A = ℕ} 0 1 = cc in omega arith)

some-has : {A : Type 0} (o : Option A) → has o ≡ true → (a : A) × (o ≡ Some a)
some-has None e = absurd (let z : ◌≡◌ {A = ℕ} 0 1 = cc in omega arith)
some-has (Some a) e = (a, refl)

module _ {A B : Type 0} (named : List ℕ → Option ℕ) (C : Side A) (S : Side B) {Z : Type 0} (next : Z → Call → Option Z) (opened : Z) (at : Z → Standing A B) (k : Steps named C S next opened at) where
  abbrev after : Calls → Z
  after = session next opened

  abbrev w : Seen A B
  w = seen next opened at

  -- the return points that are held are those that the history tells
  pub record Told (h : Calls) : Type 0 where
    pub good : k.Good (after h)
    pub client : ClientPoint C S w h (at (after h)).clientpoint
    pub server : ServerPoint C S w h (at (after h)).serverpoint

  keeps : (h : Calls) (c : Call) → next (after h) c ≡ None → after (h then c) ≡ after h
  unfolding session
  keeps h c e = ap (or_else (after h)) e

  goes_to : (h : Calls) (c : Call) (y : Z) → next (after h) c ≡ Some y → after (h then c) ≡ y
  unfolding session
  goes_to h c y e = ap (or_else (after h)) e

  granted-some : (h : Calls) (c : Call) → w.granted h c ≡ true → (y : Z) × (next (after h) c ≡ Some y)
  granted-some h c e = some-has (next (after h) c) e

  rolls-back : {D : Type 0} (marked : D → Bool) (here : Calls → D) (h : Calls) → w.granted h rollback ≡ true → Back w.granted marked here h rollback
  unfolding Back
  rolls-back marked here h e = e

  told-next : (h : Calls) (c : Call) → Told h → (o : Option Z) → next (after h) c ≡ o → Told (h then c)
  told-next h c t None e = record {
    good = rw (keeps h c e) t.good;
    client = rw (keeps h c e) (point-refused _ _ _ h c _ (ap has e) t.client);
    server = rw (keeps h c e) (point-refused _ _ _ h c _ (ap has e) t.server);
  }
  told-next h (message n) t (Some y) e =
      let q = (k.moved (after h) y n t.good e).2 in
      record {
        good = rw (goes_to h (message n) y e) (k.good-next (after h) y (message n) t.good e);
        client = rw (goes_to h (message n) y e, q.clientpoint) (point-message _ _ _ h n _ (ap has e) t.client);
        server = rw (goes_to h (message n) y e, q.serverpoint) (point-message _ _ _ h n _ (ap has e) t.server);
      }
  told-next h rollback t (Some y) e =
      let q = k.rolled (after h) y t.good e in
      record {
        good = rw (goes_to h rollback y e) (k.good-next (after h) y rollback t.good e);
        client = rw (goes_to h rollback y e, q.clientpoint) (point-back _ _ _ h rollback (rolls-back C.marked w.client h (ap has e)));
        server = rw (goes_to h rollback y e, q.serverpoint) (point-back _ _ _ h rollback (rolls-back S.marked w.server h (ap has e)));
      }

  pub told : (h : Calls) → Told h
  unfolding session
  told opening = record {
    good = k.good;
    client = rw k.begins (point-opening _ _ _);
    server = rw k.begins (point-opening _ _ _);
  }
  told (h then c) = told-next h c (told h) (next (after h) c) refl

  client-held : (h : Calls) (x : A) → ClientPoint C S w h (Some x) → (at (after h)).clientpoint ≡ Some x
  client-held h x p = point_one _ _ _ h _ _ (told h).client p

  server-held : (h : Calls) (y : B) → ServerPoint C S w h (Some y) → (at (after h)).serverpoint ≡ Some y
  server-held h y p = point_one _ _ _ h _ _ (told h).server p

  abbrev Held : Calls → Type 0
  Held h = (x : A) × (y : B) × ClientPoint C S w h (Some x) × ServerPoint C S w h (Some y)

  sendable : (h : Calls) (n : List ℕ) → w.granted h (message n) ≡ true → (m : ℕ) × (named n ≡ Some m) × Sendable C S w h m
  sendable h n e =
      let s = granted-some h (message n) e in
      let p = k.moved (after h) s.0 n (told h).good s.1 in
      (p.0, p.1, p.2.can)

  rollable : (h : Calls) → w.granted h rollback ≡ true → Held h
  rollable h e =
      let s = granted-some h rollback e in
      let q = k.rolled (after h) s.0 (told h).good s.1 in
      ((at s.0).client, (at s.0).server, subst (ClientPoint C S w h) q.client (told h).client, subst (ServerPoint C S w h) q.server (told h).server)

  by-message : (h : Calls) (n : List ℕ) (m : ℕ) → w.granted h (message n) ≡ true → named n ≡ Some m
      → (w.client (h then message n) ≡ C.goes (w.client h) m) × (w.server (h then message n) ≡ S.goes (w.server h) m)
  by-message h n m e f =
      let s = granted-some h (message n) e in
      let p = k.moved (after h) s.0 n (told h).good s.1 in
      let i : p.0 ≡ m = cc (p.1, f) in
      rw (goes_to h (message n) s.0 s.1) (p.2.client ∙ ap (C.goes (w.client h)) i, p.2.server ∙ ap (S.goes (w.server h)) i)

  by-rollback : (h : Calls) (x : A) (y : B) → w.granted h rollback ≡ true → ClientPoint C S w h (Some x) → ServerPoint C S w h (Some y)
      → (w.client (h then rollback) ≡ x) × (w.server (h then rollback) ≡ y)
  by-rollback h x y e f g =
      let s = granted-some h rollback e in
      let q = k.rolled (after h) s.0 (told h).good s.1 in
      rw (goes_to h rollback s.0 s.1) (cc (q.client, client-held h x f), cc (q.server, server-held h y g))

  -- the theorem
  pub meets : Demand named C S w
  unfolding session
  meets = record {
    opened = rw k.begins (refl, refl);
    refused = λ h c e. let i = keeps h c (none_has (next (after h) c) e) in (ap (λ z. (at z).client) i, ap (λ z. (at z).server) i);
    message-granted = λ h n. (sendable h n, λ p. k.speaks (after h) n p.0 (told h).good p.1 p.2);
    message-moves = by-message;
    rollback-granted = λ h. (rollable h, λ p. k.rolls (after h) p.0 p.1 (told h).good (client-held h p.0 p.2) (server-held h p.1 p.3));
    rollback-moves = by-rollback;
    rollback_clears = λ h e. (point-back _ _ _ h rollback (rolls-back C.marked w.client h e), point-back _ _ _ h rollback (rolls-back S.marked w.server h e));
    always = λ h. k.never_stuck (after h) (told h).good;
  }
