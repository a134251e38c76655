-- The cause of a node, case by case: its row's kind of stop, and whether its sides have return points.
use Rattle.std.specs.Prelude.{◌≡◌, refl, ℕ, Option, Some, None}
use Rattle.rowtables.specs.declared.Stop.{Stop}
use Rattle.rowtables.specs.declared.Stop.TheVariants.{Unmet, Open, Unfinished, Finished}
use Rattle.search.specs.Cause.{uneven, cause_of}

pub uneven_nn : (g h : Option ℕ) → g ≡ None → h ≡ None → uneven g h ≡ 0
uneven_nn g h e f = rw (e, f) refl

pub uneven_ns : (g h : Option ℕ) → g ≡ None → (h ≡ None → ⊥) → uneven g h ≡ 2
uneven_ns g None e f = absurd (f refl)
uneven_ns g (Some y) e f = rw e refl

pub uneven_sn : (g h : Option ℕ) → (g ≡ None → ⊥) → h ≡ None → uneven g h ≡ 2
uneven_sn None h e f = absurd (e refl)
uneven_sn (Some x) h e f = rw f refl

pub uneven_ss : (g h : Option ℕ) → (g ≡ None → ⊥) → (h ≡ None → ⊥) → uneven g h ≡ 0
uneven_ss None h e f = absurd (e refl)
uneven_ss (Some x) None e f = absurd (f refl)
uneven_ss (Some x) (Some y) e f = refl

pub cause_1 : (k : Stop) (g h : Option ℕ) → k ≡ Unfinished → cause_of k g h ≡ 1
cause_1 k g h e = rw e refl

pub cause_2 : (k : Stop) (g h : Option ℕ) → k ≡ Finished → cause_of k g h ≡ uneven g h
cause_2 k g h e = rw e refl

pub cause_0 : (k : Stop) (g h : Option ℕ) → (k ≡ Unfinished → ⊥) → (k ≡ Finished → ⊥) → cause_of k g h ≡ 0
cause_0 Unmet g h e f = refl
cause_0 Open g h e f = refl
cause_0 Unfinished g h e f = absurd (e refl)
cause_0 Finished g h e f = absurd (f refl)
