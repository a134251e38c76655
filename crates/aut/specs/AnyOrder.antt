-- "so the order of lines in the file doesn't show": the same lines in another order are taken too, and give the same value.
use Rattle.std.specs.Prelude.{◌≡◌, refl, ℕ, suc, ◌≤◌, length}
use Rattle.std.proofs.Common.{sym, ap, ◌∙◌, arith}
use mathlib.Core.List.{List, Permᴰ}
use Rattle.std.proofs.lemmas.List.{length-replicate}
use Rattle.tokens.specs.declared.Line.{Line}
use Rattle.behaviour.specs.declared.Behaviour.{Behaviour}
use Rattle.behaviour.specs.Pick.{unused}
use Rattle.behaviour.specs.Limits.{most_states, most_lines, most_bytes}
use Rattle.aut.specs.Adding.{bare, add}
use Rattle.aut.specs.File.{finish, file}
use Rattle.aut.specs.Swapping.{Open, open_add, swapped}
use Rattle.aut.specs.Contents.{Accepted, Contents, as_many, judged, AllTaken, add_all, taken-judged, judged-taken, file-short, accepted_ranges, file-judged}

perm_length : {ls ms : List Line} → Permᴰ ls ms → length ls ≡ length ms
perm_length Permᴰ.nil = refl
perm_length (Permᴰ.cons e d) = ap suc (perm_length d)
perm_length (Permᴰ.swap e f) = refl
perm_length (Permᴰ.trans c d) = perm_length c ∙ perm_length d

-- room for two lines where there is room for more
for_two : (k : ℕ) (b : Behaviour) → Open (suc (suc k)) b → Open 2 b
for_two k b o = record {
  few_states = o.few_states;
  all-marks = o.all-marks;
  all-signs = o.all-signs;
  all-messages = o.all-messages;
  room = let r = o.room in omega arith;
}

-- lines that are taken, in another order: taken, with the same value
pub record Alike (b : Behaviour) (ls ms : List Line) : Type 0 where
  pub taken : AllTaken b ms
  pub value : add_all b ms ≡ add_all b ls

pub reordered : {ls ms : List Line} → Permᴰ ls ms → (b : Behaviour) → Open (length ls) b → AllTaken b ls → Alike b ls ms
unfolding add_all
reordered Permᴰ.nil b o a = record { taken = a; value = refl }
reordered (Permᴰ.cons {a = l} {b = m} {l₁ = ls} {l₂ = ms} e d) b o a =
    let i = reordered d (add b l) (open_add (length ls) b l o a.0) a.1 in
    rw (sym e) (record { taken = (a.0, i.taken); value = i.value })
reordered (Permᴰ.swap {a = l} {b = m} {l = ls} e f) b o a =
    let s = swapped b l m (for_two (length ls) b o) a.0 a.1.0 in
    rw (sym e, sym f) (record { taken = (s.first, (s.then, rw s.same a.1.1)); value = rw s.same })
reordered (Permᴰ.trans c d) b o a =
    let i = reordered c b o a in
    let j = reordered d b (rw (sym (perm_length c)) o) i.taken in
    record { taken = j.taken; value = j.value ∙ i.value }

open_bare : (k n : ℕ) → n ≤ most_states → k ≤ most_lines → Open k (bare n)
open_bare k n p q = record {
  few_states = p;
  all-marks = length-replicate {A = ℕ} most_states 0;
  all-signs = length-replicate {A = ℕ} most_states 0;
  all-messages = length-replicate most_lines unused;
  room = omega arith;
}

-- of two files with the same first line and the same lines in any order, if one is taken so is the other, and reading gives the same
pub any_order : (s t : List ℕ) (c : Contents s) (d : Contents t) → c.first ≡ d.first → Permᴰ c.others d.others
    → length t ≤ most_bytes → Accepted (file s) → file t ≡ file s
any_order s t c d e p h a =
    let r = accepted_ranges s c a in
    let b = bare c.first.states in
    let u : file s ≡ judged 2 b c.others = file-judged s c (file-short s a) r in
    let v : file t ≡ judged 2 b d.others = rw e (file-judged t d h (rw (sym e) r)) in
    let x = judged-taken 2 b c.others (rw u at a) in
    let o = open_bare (length c.others) c.first.states r.few_states (omega (arith, as_many s c, r.few-lines)) in
    let i = reordered p b o x in
    v ∙ taken-judged 2 b d.others i.taken ∙ ap finish i.value ∙ sym (taken-judged 2 b c.others x) ∙ sym u
