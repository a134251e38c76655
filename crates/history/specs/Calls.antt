-- The calls on a session, in the order made, refused ones among them.
use Rattle.std.specs.Prelude.{◌≡◌, List, ◌⊎◌, ℕ, suc, ◌<◌}
use Rattle.std.proofs.Common.{sym, ◌∙◌, ap, inl, inr, arith}

-- "A message call gives the message's name as bytes"
pub data Call : Type 0 where
  message : List ℕ → Call
  rollback : Call

pub data Calls : Type 0 where
  opening : Calls
  ◌then◌ : Calls → Call → Calls

infixl 60 ◌then◌
-- c is one of the calls h, made right after the calls e
unfoldable pub Made : Calls → Call → Calls → Type 0
Made e c opening = ⊥
Made e c (h then d) = ((e ≡ h) × (c ≡ d)) ⊎ Made e c h

size : Calls → ℕ
size opening = 0
size (h then c) = suc (size h)

made-size : (e : Calls) (c : Call) (h : Calls) → Made e c h → size e < size h
unfolding Made size
made-size e c opening m = absurd m
made-size e c (h then d) (inl p) = omega (arith, ap size p.0)
made-size e c (h then d) (inr m) = omega (arith, made-size e c h m)

-- nothing is made before itself
pub made-not : (e : Calls) (c : Call) (h : Calls) (d : Call) → Made e c h → Made h d e → ⊥
made-not e c h d m n = omega (arith, made-size e c h m, made-size h d e n)

pub made-not-now : (e : Calls) (c : Call) (h : Calls) → Made e c h → e ≡ h → ⊥
made-not-now e c h m p = omega (arith, made-size e c h m, ap size p)

-- of two calls, one is made before the other, or they are one
pub made_tri : (e : Calls) (c : Call) (f : Calls) (d : Call) (h : Calls) → Made e c h → Made f d h
    → ((e ≡ f) × (c ≡ d)) ⊎ (Made e c f ⊎ Made f d e)
unfolding Made
made_tri e c f d opening m n = absurd m
made_tri e c f d (h then b) (inl p) (inl q) = inl (p.0 ∙ sym q.0, p.1 ∙ sym q.1)
made_tri e c f d (h then b) (inl p) (inr n) = inr (inr (rw p.0 n))
made_tri e c f d (h then b) (inr m) (inl q) = inr (inl (rw q.0 m))
made_tri e c f d (h then b) (inr m) (inr n) = made_tri e c f d h m n
