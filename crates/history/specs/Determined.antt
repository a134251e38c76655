-- Demand 3 settles everything that is seen: two sessions that meet it grant the same calls and stand at the same states.
use Rattle.std.specs.Prelude.{◌≡◌, Bool, true, false, List, ℕ, Option, None, Some}
use Rattle.std.proofs.Math.Path.{refl, sym}
use Rattle.std.proofs.Common.{◌∙◌, inl, inr}
use Rattle.history.specs.Calls.{Call, message, rollback, Calls, opening, ◌then◌, Made}
use Rattle.history.specs.Point.{Left, Back, Since, Point}
use Rattle.history.specs.Side.{Side}
use Rattle.history.specs.Demand.{Seen, Demand}

iff_same : (a b : Bool) → (a ≡ true → b ≡ true) → (b ≡ true → a ≡ true) → a ≡ b
iff_same true b f g = sym (f refl)
iff_same false true f g = g refl
iff_same false false f g = refl

module _ {A : Type 0} (marked : A → Bool) (g k : Calls → Call → Bool) (a b : Calls → A) where
  left_other : (h : Calls) (c : Call) (x : A) → g h c ≡ k h c → a h ≡ b h → Left g marked a h c x → Left k marked b h c x
  unfolding Left
  left_other h (message n) x p q l = (sym p ∙ l.0, sym q ∙ l.1, l.2)
  left_other h rollback x p q l = l

  back-other : (h : Calls) (c : Call) → g h c ≡ k h c → Back g marked a h c → Back k marked b h c
  unfolding Back
  back-other h (message n) p l = l
  back-other h rollback p l = sym p ∙ l

module _ {A : Type 0} (marked : A → Bool) (g k : Calls → Call → Bool) (a b : Calls → A) (h : Calls)
    (same : (e : Calls) (c : Call) → Made e c h → (g e c ≡ k e c) × (a e ≡ b e)) where
  since-other : (e : Calls) (c : Call) → Since g marked a e c h → Since k marked b e c h
  unfolding Since
  since-other e c s f d m n l = s f d m n (back-other marked k g b a f d (sym (same f d m).0) l)

module _ {A : Type 0} (marked : A → Bool) (g k : Calls → Call → Bool) (a b : Calls → A) (h : Calls)
    (same : (e : Calls) (c : Call) → Made e c h → (g e c ≡ k e c) × (a e ≡ b e)) where
  ways : (e : Calls) (c : Call) → Made e c h → (k e c ≡ g e c) × (b e ≡ a e)
  ways e c m = (sym (same e c m).0, sym (same e c m).1)

  -- the return point is told by the calls made and where the side stood at them
  point-other : (p : Option A) → Point g marked a h p → Point k marked b h p
  unfolding Point
  point-other None p = λ e c x m l s. p e c x m
      (left_other marked k g b a e c x (ways e c m).0 (ways e c m).1 l) (since-other marked k g b a h ways e c s)
  point-other (Some x) p = (
    p.0,
    p.1,
    p.2,
    left_other marked g k a b p.0 p.1 x (same p.0 p.1 p.2).0 (same p.0 p.1 p.2).1 p.3,
    since-other marked g k a b h same p.0 p.1 p.4,
    λ f d y m n l. p.5 f d y m n (left_other marked k g b a f d y (ways f d m).0 (ways f d m).1 l),
  )

module _ {A B : Type 0} (named : List ℕ → Option ℕ) (C : Side A) (S : Side B) where
  pub record Same (v w : Seen A B) (h : Calls) : Type 0 where
    pub client : v.client h ≡ w.client h
    pub server : v.server h ≡ w.server h

  pub record Past (v w : Seen A B) (h : Calls) : Type 0 where
    pub made : (e : Calls) (c : Call) → Made e c h → (v.granted e c ≡ w.granted e c) × (v.client e ≡ w.client e) × (v.server e ≡ w.server e)
    pub now : Same v w h

  over : (v w : Seen A B) (h : Calls) → Past v w h → Past w v h
  over v w h p = record {
    made = λ e c m. let q = p.made e c m in (sym q.0, sym q.1, sym q.2);
    now = record { client = sym p.now.client; server = sym p.now.server };
  }

  module _ (v w : Seen A B) (h : Calls) (p : Past v w h) where
    client-point : (q : Option A) → Point v.granted C.marked v.client h q → Point w.granted C.marked w.client h q
    client-point q = point-other C.marked v.granted w.granted v.client w.client h (λ e c m. ((p.made e c m).0, (p.made e c m).1)) q

    server-point : (q : Option B) → Point v.granted S.marked v.server h q → Point w.granted S.marked w.server h q
    server-point q = point-other S.marked v.granted w.granted v.server w.server h (λ e c m. ((p.made e c m).0, (p.made e c m).2)) q

    grants : Demand named C S v → Demand named C S w → (c : Call) → v.granted h c ≡ true → w.granted h c ≡ true
    grants a b (message n) g = (b.message-granted h n).1 (rw (p.now.client, p.now.server) at ((a.message-granted h n).0 g))
    grants a b rollback g =
        let r = (a.rollback-granted h).0 g in
        (b.rollback-granted h).1 (r.0, r.1, client-point (Some r.0) r.2, server-point (Some r.1) r.3)

  module _ (v w : Seen A B) (a : Demand named C S v) (b : Demand named C S w) where
    moved : (h : Calls) (c : Call) → Past v w h → v.granted h c ≡ true → w.granted h c ≡ true → Same v w (h then c)
    moved h (message n) p g k =
        let r = (a.message-granted h n).0 g in
        let s = a.message-moves h n r.0 g r.1 in
        let t = b.message-moves h n r.0 k r.1 in
        record { client = cc (p.now.client, s.0, t.0); server = cc (p.now.server, s.1, t.1) }
    moved h rollback p g k =
        let r = (a.rollback-granted h).0 g in
        let s = a.rollback-moves h r.0 r.1 g r.2 r.3 in
        let t = b.rollback-moves h r.0 r.1 k (client-point v w h p (Some r.0) r.2) (server-point v w h p (Some r.1) r.3) in
        record { client = s.0 ∙ sym t.0; server = s.1 ∙ sym t.1 }

    grant : (h : Calls) (c : Call) → Past v w h → v.granted h c ≡ w.granted h c
    grant h c p = iff_same _ _ (grants v w h p a b c) (grants w v h (over v w h p) b a c)

    next : (h : Calls) (c : Call) → Past v w h → (o : Bool) → v.granted h c ≡ o → Same v w (h then c)
    next h c p true e = moved h c p e (sym (grant h c p) ∙ e)
    next h c p false e =
        let s = a.refused h c e in
        let t = b.refused h c (sym (grant h c p) ∙ e) in
        record { client = s.0 ∙ p.now.client ∙ sym t.0; server = s.1 ∙ p.now.server ∙ sym t.1 }

    past_more : (h : Calls) (c : Call) → Past v w h → Past v w (h then c)
    unfolding Made
    past_more h c p = record { made = made; now = next h c p (v.granted h c) refl }
      where
        made : (e : Calls) (d : Call) → Made e d (h then c) → (v.granted e d ≡ w.granted e d) × (v.client e ≡ w.client e) × (v.server e ≡ w.server e)
        made e d (inl q) = rw (q.0, q.1) (grant h c p, p.now.client, p.now.server)
        made e d (inr m) = p.made e d m

    past : (h : Calls) → Past v w h
    unfolding Made
    past opening = record {
      made = λ e c m. absurd m;
      now = record { client = a.opened.0 ∙ sym b.opened.0; server = a.opened.1 ∙ sym b.opened.1 };
    }
    past (h then c) = past_more h c (past h)

    pub determined : (h : Calls) → (v.client h ≡ w.client h) × (v.server h ≡ w.server h) × ((c : Call) → v.granted h c ≡ w.granted h c)
    determined h = ((past h).now.client, (past h).now.server, λ c. grant h c (past h))
