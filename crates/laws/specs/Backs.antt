-- Where a rollback leads, by both sides' entries: nowhere, or to a node with a number of 16 bits.
use Rattle.std.specs.Prelude.{◌≡◌, refl, List, ℕ, suc, ◌<◌, ◌≤◌, ◌*◌, Option, Some, None}
use Rattle.std.proofs.Common.{◌∙◌, arith, mul-le-mul}
use Rattle.behaviour.specs.declared.Behaviour.{Behaviour}
use Rattle.behaviour.specs.Sound.{total}
use Rattle.stands.specs.Points.{ClientPoint, ServerPoint}
use Rattle.stands.specs.Stands.{back}
use Rattle.compliance.specs.SoundStand.{Marked, client_held, server_held}
use Rattle.compliance.specs.Kept.{Ranged}
use Rattle.sides.specs.Numbers.{size}
use Rattle.sidetables.specs.Side.{back_entry}
use Rattle.search.specs.Tab.{back_of}
use Rattle.search.specs.Transfer.{omap}
use Rattle.pairing.specs.Numbered.{num}
use Rattle.pairing.specs.Points.{back-is, back_below}

-- v is where the entries lead, o where the rollback does, of n nodes
pub data Backs (n : ℕ) (v o : Option ℕ) : Type 0 where
  nowhere : v ≡ None → o ≡ None → Backs n v o
  somewhere : (m : ℕ) → v ≡ Some m → m < n → m < 65535 → o ≡ Some m → Backs n v o

-- a return point's number is never 65535
pub entry-small : (l : List ℕ) (states scale y : ℕ) → y < states → states * suc (total l) ≤ 128 → scale ≤ 128 → y * suc (total l) * scale < 65535
entry-small l states scale y h m n =
    let g : y ≤ states = omega arith in
    let e : suc (total l) ≤ suc (total l) = omega arith in
    let d : y * suc (total l) ≤ 128 = omega (arith, mul-le-mul g e) in
    omega (arith, mul-le-mul d n)

pub backs : (c s : Behaviour) → Ranged c → Ranged s → size c ≤ 128 → size s ≤ 128 → (g : ClientPoint) (h : ServerPoint) → Marked c.marks (client_held g) → Marked s.marks (server_held h)
    → Backs (size c * 128) (back_of (back_entry c.marks 128 (client_held g)) (back_entry s.marks 1 (server_held h))) (omap (num c s) (back g h))
backs c s rc rs few-c few g h i j = go (back_of (back_entry c.marks 128 (client_held g)) (back_entry s.marks 1 (server_held h))) refl
  where
    go : (v : Option ℕ) → back_of (back_entry c.marks 128 (client_held g)) (back_entry s.marks 1 (server_held h)) ≡ v
        → Backs (size c * 128) (back_of (back_entry c.marks 128 (client_held g)) (back_entry s.marks 1 (server_held h))) (omap (num c s) (back g h))
    go None e = nowhere e (back-is c s rc rs few g h ∙ e)
    go (Some m) e = let b = back_below c s rc rs few g h i j m e in somewhere m e b (omega (arith, b, few-c)) (back-is c s rc rs few g h ∙ e)
