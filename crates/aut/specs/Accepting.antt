-- When a line meets no refusal, by the kind of its label: a mark, or a message that is taken or sent.
use Rattle.std.specs.Prelude.{◌≡◌, Result, Ok, Err, ⊤, Bool, ◌&&◌, not, ℕ, ◌<◌, ltb, eqb, get_or}
use Rattle.std.proofs.Math.Path.{refl}
use Rattle.std.proofs.Common.{sym, ◌∙◌}
use Rattle.std.proofs.Math.Bool.{true, false}
use borrow.Author.Tests.{ltb-true, eqb-true, eqb-false, eq-eqb, ne_eqb, lt-ltb}
use Rattle.names.specs.If.{if}
use Rattle.tokens.specs.declared.Label.{Label}
use Rattle.tokens.specs.declared.Label.TheVariants.{Mark, Take, Send, Other}
use Rattle.tokens.specs.declared.Line.{Line}
use Rattle.behaviour.specs.declared.Message.{Message}
use Rattle.behaviour.specs.declared.Behaviour.{Behaviour}
use Rattle.behaviour.specs.declared.Reason.{Reason}
use Rattle.behaviour.specs.declared.Reason.TheVariants as reason
use Rattle.behaviour.specs.Sound.{messages}
use Rattle.aut.specs.Adding.{has, add, add_mark, add_message, check, check_label, check_message}

-- ?n if t, and !n if not
abbrev pub said : Bool → ℕ → Label
said true n = Take n
said false n = Send n

abbrev pub sign_of : Bool → ℕ
sign_of true = 1
sign_of false = 2

pub data Kind : Label → Type 0 where
  mark : Kind Mark
  message : (t : Bool) (n : ℕ) → Kind (said t n)
  other : Kind Other

pub kind : (l : Label) → Kind l
kind Mark = mark
kind (Take n) = message true n
kind (Send n) = message false n
kind Other = other

abbrev pub mark_line : ℕ → ℕ → Line
mark_line f g = record { from = f; label = Mark; to = g }

abbrev pub said_line : Bool → ℕ → ℕ → ℕ → Line
said_line t n f g = record { from = f; label = said t n; to = g }

abbrev pub said_message : ℕ → ℕ → ℕ → Message
said_message n f g = record { name = n; from = f; to = g }

-- a mark's line that meets no refusal
pub record Marks (b : Behaviour) (f g : ℕ) : Type 0 where
  pub from_low : f < b.states
  pub to_low : g < b.states
  pub loops : f ≡ g
  pub unmarked : get_or b.marks f 0 ≡ 0

-- a message's line that meets no refusal
pub record Says (b : Behaviour) (t : Bool) (n f g : ℕ) : Type 0 where
  pub from_low : f < b.states
  pub to_low : g < b.states
  pub one_sign : get_or b.signs f 0 ≡ sign_of (not t) → ⊥
  pub new_name : has f n (messages b) ≡ false

-- 6 is not met
pub low : (b : Behaviour) (l : Line) → check b l ≡ Ok tt
    → (l.from < b.states) × (l.to < b.states) × (check_label b l.from l.to l.label ≡ Ok tt)
unfolding check
low b l e = go (ltb l.from b.states) (ltb l.to b.states) refl refl e
  where
    go : (t u : Bool) → ltb l.from b.states ≡ t → ltb l.to b.states ≡ u
        → if (t && u) (check_label b l.from l.to l.label) (Err reason.StateTooHigh) ≡ Ok tt
        → (l.from < b.states) × (l.to < b.states) × (check_label b l.from l.to l.label ≡ Ok tt)
    go true true p q h = (ltb-true _ _ p, ltb-true _ _ q, h)
    go true false p q h = absurd cc
    go false u p q h = absurd cc

module _ (b : Behaviour) (f g : ℕ) where
  pub mark-taken : check b (mark_line f g) ≡ Ok tt → Marks b f g
  mark-taken e = let r = low b (mark_line f g) e in go (eqb f g) (eqb (get_or b.marks f 0) 0) refl refl r.0 r.1 r.2
    where
      go : (s t : Bool) → eqb f g ≡ s → eqb (get_or b.marks f 0) 0 ≡ t → f < b.states → g < b.states → ◌≡◌ {A = Result ⊤ Reason} (if s (if t (Ok tt) (Err reason.MisplacedMark)) (Err reason.MisplacedMark)) (Ok tt) → Marks b f g
      go true true p q x y h = record { from_low = x; to_low = y; loops = eqb-true f g p; unmarked = eqb-true (get_or b.marks f 0) 0 q }
      go true false p q x y h = absurd cc
      go false t p q x y h = absurd cc

  pub mark_checks : Marks b f g → check b (mark_line f g) ≡ Ok tt
  unfolding check
  mark_checks m =
      rw (lt-ltb f b.states m.from_low, lt-ltb g b.states m.to_low, eq-eqb f g m.loops, eq-eqb (get_or b.marks f 0) 0 m.unmarked)

module _ (b : Behaviour) (n f g : ℕ) where
  by_sign : (t : Bool) → check_label b f g (said t n) ≡ check_message b f (sign_of (not t)) n
  by_sign true = refl
  by_sign false = refl

  pub said-taken : (t : Bool) → check b (said_line t n f g) ≡ Ok tt → Says b t n f g
  said-taken t e =
      let r = low b (said_line t n f g) e in
      go (eqb (get_or b.signs f 0) (sign_of (not t))) (has f n (messages b)) refl refl r.0 r.1 (sym (by_sign t) ∙ r.2)
    where
      go : (s u : Bool) → eqb (get_or b.signs f 0) (sign_of (not t)) ≡ s → has f n (messages b) ≡ u
          → f < b.states → g < b.states → ◌≡◌ {A = Result ⊤ Reason} (if s (Err reason.TakingAndSending) (if u (Err reason.SameNameAgain) (Ok tt))) (Ok tt) → Says b t n f g
      go true u p q x y h = absurd cc
      go false true p q x y h = absurd cc
      go false false p q x y h = record { from_low = x; to_low = y; one_sign = eqb-false (get_or b.signs f 0) (sign_of (not t)) p; new_name = q }

  pub said_checks : (t : Bool) → Says b t n f g → check b (said_line t n f g) ≡ Ok tt
  unfolding check
  said_checks t m =
      rw (lt-ltb f b.states m.from_low, lt-ltb g b.states m.to_low, by_sign t, ne_eqb (get_or b.signs f 0) (sign_of (not t)) m.one_sign, m.new_name)

  pub said_adds : (t : Bool) → add b (said_line t n f g) ≡ add_message b (sign_of t) (said_message n f g)
  unfolding add
  said_adds true = refl
  said_adds false = refl

pub mark_adds : (b : Behaviour) (f g : ℕ) → add b (mark_line f g) ≡ add_mark b f
unfolding add
mark_adds b f g = refl

-- 7 is met by any other label
pub other-refused : (b : Behaviour) (f g : ℕ) → check b (record { from = f; label = Other; to = g }) ≡ Ok tt → ⊥
other-refused b f g e = let r = (low b (record { from = f; label = Other; to = g }) e).2 in cc
