-- The order of a file's lines doesn't show in the value.
use Rattle.std.specs.Prelude.{◌≡◌, ℕ}
use Rattle.std.proofs.Common.{ap}
use mathlib.Core.List.{List, Permᴰ}
use Rattle.aut.specs.File.{value_of, file}
use Rattle.aut.specs.Contents.{Accepted, file-short}
use Rattle.aut.specs.AnyOrder.{any_order}
use Rattle.aut.proofs.Contents.{contents_of}

-- two accepted files with the same first line, whose lines are the same in any order, give the same value
pub same-value : (s t : List ℕ) (a : Accepted (file s)) (b : Accepted (file t)) → (contents_of s a).first ≡ (contents_of t b).first
    → Permᴰ (contents_of s a).others (contents_of t b).others → value_of (file t) ≡ value_of (file s)
same-value s t a b e p = ap value_of (any_order s t (contents_of s a) (contents_of t b) e p (file-short t b) a)
