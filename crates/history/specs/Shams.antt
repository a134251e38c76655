-- Sham sessions that demand 3 shuts out, whatever they say: each does what one of 01's "Errors that look right" or its list of shams tells.
use Rattle.std.specs.Prelude.{◌≡◌, Bool, true, false, List, ℕ, Option, None, Some}
use Rattle.std.proofs.Common.{sym, ◌∙◌, ap, arith}
use Rattle.history.specs.Calls.{Call, message, rollback, Calls, opening, ◌then◌}
use Rattle.history.specs.Side.{Side, Possible}
use Rattle.history.specs.Point.{Point, point-opening, point-message, point_one}
use Rattle.history.specs.Demand.{Seen, ClientPoint, ServerPoint, Demand}

module _ {A B : Type 0} (named : List ℕ → Option ℕ) (C : Side A) (S : Side B) (w : Seen A B) (d : Demand named C S w) where
  -- "Keeping return points after a rollback": a second rollback right after a granted one is refused
  pub points_kept : (h : Calls) → w.granted h rollback ≡ true → w.granted (h then rollback) rollback ≡ true → ⊥
  points_kept h g e =
      let p = (d.rollback-granted (h then rollback)).0 e in
      let z = point_one _ _ _ (h then rollback) (Some p.0) None p.2 (d.rollback_clears h g).0 in
      let o : ◌≡◌ {A = ℕ} 0 1 = cc in
      omega arith

-- on a pair whose first message n moves the client (cases g and h among them)
module _ {A B : Type 0} (named : List ℕ → Option ℕ) (C : Side A) (S : Side B) (w : Seen A B) (d : Demand named C S w)
    (n : List ℕ) (m : ℕ) (name : named n ≡ Some m) (can : Possible C C.start S S.start m) (away : C.goes C.start m ≡ C.start → ⊥) where
  said : w.granted opening (message n) ≡ true
  said = (d.message-granted opening n).1 (m, name, rw (d.opened.0, d.opened.1) can)

  moves : w.client (opening then message n) ≡ C.goes C.start m
  moves = (d.message-moves opening n m said name).0 ∙ ap (λ x. C.goes x m) d.opened.0

  -- "a session that never moves"
  pub never-moves : ((h : Calls) → w.client h ≡ w.client opening) → ⊥
  never-moves still = away (sym moves ∙ still (opening then message n) ∙ d.opened.0)

  -- "Setting the return point on *arriving* at a mark": with an unmarked start, no rollback is granted after the first message
  pub arriving : C.marked C.start ≡ false → w.granted (opening then message n) rollback ≡ true → ⊥
  arriving plain e =
      let p = (d.rollback-granted (opening then message n)).0 e in
      let f : C.marked (w.client opening) ≡ false = rw d.opened.0 plain in
      let q = rw f at (point-message w.granted C.marked w.client opening n None said (point-opening w.granted C.marked w.client)) in
      let z = point_one _ _ _ (opening then message n) (Some p.0) None p.2 q in
      let o : ◌≡◌ {A = ℕ} 0 1 = cc in
      omega arith

  module _ (client : C.marked C.start ≡ true) (server : S.marked S.start ≡ true) where
    left : {D : Type 0} (marked : D → Bool) (at : Calls → D) → marked (at opening) ≡ true
        → Point w.granted marked at (opening then message n) (Some (at opening))
    left marked at e = rw e at (point-message w.granted marked at opening n None said (point-opening w.granted marked at))

    points : ClientPoint C S w (opening then message n) (Some C.start) × ServerPoint C S w (opening then message n) (Some S.start)
    points = (
      rw d.opened.0 at (left C.marked w.client (rw d.opened.0 client)),
      rw d.opened.1 at (left S.marked w.server (rw d.opened.1 server)),
    )

    -- "a session that honours the first message or rollback and afterwards only says so"
    pub only_the_first : ((c b : Call) → w.client (opening then c then b) ≡ w.client (opening then c)) → ⊥
    only_the_first still =
        let h = opening then message n in
        let g = (d.rollback-granted h).1 (C.start, S.start, points.0, points.1) in
        away (sym moves ∙ sym (still (message n) rollback) ∙ (d.rollback-moves h C.start S.start g points.0 points.1).0)

    -- one that rolls only the server back
    pub one_side-back : ((h : Calls) → w.client (h then rollback) ≡ w.client h) → ⊥
    one_side-back still =
        let h = opening then message n in
        let g = (d.rollback-granted h).1 (C.start, S.start, points.0, points.1) in
        away (sym moves ∙ sym (still h) ∙ (d.rollback-moves h C.start S.start g points.0 points.1).0)
