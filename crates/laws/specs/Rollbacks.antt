-- Where a rollback leads, case by case: nowhere without both return points, else to both.
use Rattle.std.specs.Prelude.{◌≡◌, refl, ℕ, ◌+◌, Option, Some, None}
use Rattle.search.specs.Tab.{back_of}

pub back-left : (g h : Option ℕ) → g ≡ None → back_of g h ≡ None
back-left g h e = rw e refl

pub back-right : (g h : Option ℕ) → (g ≡ None → ⊥) → h ≡ None → back_of g h ≡ None
back-right None h e f = absurd (e refl)
back-right (Some x) h e f = rw f refl

pub back-both : (g h : ℕ) → back_of (Some g) (Some h) ≡ Some (g + h)
back-both g h = refl
