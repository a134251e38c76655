-- The lines of a run that leads somewhere, by following the client alone, are those of `RunText`.
use mathlib.Core.Path.{◌≡◌, refl, sym, subst}
use mathlib.Core.Bool.{Bool, true, false}
use mathlib.Core.List.{List, [], ◌∷◌}
use Prim.Native.Nat.{ℕ, zero, suc, ◌+◌, ◌<◌}
use native.Mathlib.Omega.{arith}
use borrow.Author.Tests.{ltb-true, eqb-true, ne_eqb}
use lib.Dec.{ltb, eqb}
use lib.ListN.{get_or}
use Rattle.std.specs.Prelude.{None, Some, Option}
use Rattle.names.specs.If.{if}
use Rattle.behaviour.specs.declared.Behaviour.{Behaviour}
use Rattle.stands.specs.Points.{ClientPoint}
use Rattle.stands.specs.Points.{ServerPoint}
use Rattle.stands.specs.declared.Stand.{Stand}
use Rattle.stands.specs.Stands.{marked, possible, among, moved, message, back, rollback, start, alphabet, nth, said, step, pair}
use Rattle.runs.specs.System.{from, after}
use Rattle.runs.specs.Rank.{opened}
use Rattle.report.specs.RunText.{seen, step_lines}
use Rattle.report.specs.Followed.{step_label, next_state, next_home, followed}

-- the state that the client goes back to, if it has a return point
abbrev Home : ClientPoint → ℕ → Type 0
Home None h = Unit {0}
Home (Some y) h = y.0 ≡ h

nth-get_or : (l : List ℕ) (k n : ℕ) → nth l k ≡ Some n → get_or l k 0 ≡ n
unfolding nth
nth-get_or [] k n e = absurd (let z : ◌≡◌ {A = ℕ} 0 1 = cc in omega arith)
nth-get_or (m ∷ l) zero n e = cc
nth-get_or (m ∷ l) (suc k) n e = nth-get_or l k n e

module _ (c s : Behaviour) where
  abbrev name : ℕ → ℕ
  name b = get_or (alphabet c s) b 0

  -- one step, seen from the client
  record Follows (p q : Stand) (home b : ℕ) : Type 0 where
    label : step_label b (get_or c.signs p.client.0 0) (name b) ≡ seen c s p b
    state : next_state c b (name b) p.client.0 home ≡ q.client.0
    held : Home q.clientpoint (next_home c b p.client.0 home)

  module _ (p q : Stand) (home b : ℕ) (h : Home p.clientpoint home) where
    by-message : (n : ℕ) → b < 255 → nth (alphabet c s) b ≡ Some n → message c s p n ≡ Some q → Follows p q home b
    unfolding message moved
    by-message n l f e = go (among n (possible c s p.client p.server)) e
      where
        m : eqb b 255 ≡ false
        m = ne_eqb b 255 (λ z. omega arith)

        d : name b ≡ n
        d = nth-get_or (alphabet c s) b n f

        kept : (t : Bool) → Home (if t (Some p.client) p.clientpoint) (if t p.client.0 home)
        kept true = refl
        kept false = h

        go : (t : Bool) → if t (Some (moved c s p n)) None ≡ Some q → Follows p q home b
        go false e = absurd (let z : ◌≡◌ {A = ℕ} 0 1 = cc in omega arith)
        go true e =
            let z : moved c s p n ≡ q = cc in
            subst (λ (i : Stand). Follows p i home b) z (record { label = rw (m, f, d); state = rw (m, d); held = rw m (kept (marked c p.client.0)) })

    by-rollback : b ≡ 255 → rollback p ≡ Some q → Follows p q home b
    unfolding rollback
    by-rollback f e = go p.clientpoint p.serverpoint h e
      where
        go : (g : ClientPoint) (j : ServerPoint) → Home g home → back g j ≡ Some q → Follows p q home b
        go None j a e = absurd (let z : ◌≡◌ {A = ℕ} 0 1 = cc in omega arith)
        go (Some x) None a e = absurd (let z : ◌≡◌ {A = ℕ} 0 1 = cc in omega arith)
        go (Some x) (Some y) a e =
            let z : record { client = x; clientpoint = None; server = y; serverpoint = None } ≡ q = cc in
            subst (λ (i : Stand). Follows p i home b) z (record { label = rw f; state = rw f (sym a); held = tt })

    one_step : step c s p b ≡ Some q → Follows p q home b
    unfolding step
    one_step e = go (ltb b 255) (eqb b 255) refl refl e
      where
        spoken : (o : Option ℕ) → nth (alphabet c s) b ≡ o → b < 255 → said c s p o ≡ Some q → Follows p q home b
        spoken None f l e = absurd (let z : ◌≡◌ {A = ℕ} 0 1 = cc in omega arith)
        spoken (Some n) f l e = by-message n l f e

        go : (t u : Bool) → ltb b 255 ≡ t → eqb b 255 ≡ u → if t (said c s p (nth (alphabet c s) b)) (if u (rollback p) None) ≡ Some q → Follows p q home b
        go true u a d e = spoken (nth (alphabet c s) b) refl (ltb-true b 255 a) e
        go false true a d e = by-rollback (eqb-true b 255 d) e
        go false false a d e = absurd (let z : ◌≡◌ {A = ℕ} 0 1 = cc in omega arith)

  more : (b : ℕ) (r : List ℕ) (k home : ℕ) (p m : Stand) → step c s p b ≡ Some m → Follows p m home b
      → followed c (alphabet c s) (k + 1) m.client.0 (next_home c b p.client.0 home) r ≡ step_lines c s (k + 1) (Some m) r
      → followed c (alphabet c s) k p.client.0 home (b ∷ r) ≡ step_lines c s k (Some p) (b ∷ r)
  unfolding followed step_lines
  more b r k home p m d f i = rw (f.label, f.state, d, i)

  follow : (r : List ℕ) (k home : ℕ) (p q : Stand) → Home p.clientpoint home → from (pair c s) (Some p) r ≡ Some q
      → followed c (alphabet c s) k p.client.0 home r ≡ step_lines c s k (Some p) r
  unfolding from followed step_lines
  follow [] k home p q h e = refl
  follow (b ∷ r) k home p q h e =
      let o = opened (pair c s) (step c s p b) r q e in
      let f = one_step p o.0 home b h o.1 in
      more b r k home p o.0 o.1 f
      (follow r (k + 1) (next_home c b p.client.0 home) o.0 q f.held (subst (λ (j : Option Stand). from (pair c s) j r ≡ Some q) o.1 e))

  -- the whole run
  pub followed-run : (r : List ℕ) (home : ℕ) (q : Stand) → after (pair c s) r ≡ Some q → followed c (alphabet c s) 0 0 home r ≡ step_lines c s 0 (Some start) r
  followed-run r home q e = follow r 0 home start q tt e
