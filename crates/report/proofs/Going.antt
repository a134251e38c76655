-- The lines of a run from a step on.
use Rattle.std.proofs.Common.{◌≡◌, refl, List, [], ◌++◌, ℕ, ◌+◌, ◌<◌, ◌≤◌, length, get_or, drop, drop_of_length-le}
use Rattle.names.specs.Places.{here}
use Rattle.behaviour.specs.declared.Behaviour.{Behaviour}
use Rattle.report.specs.Followed.{next_state, next_home, seen_line, followed}

module _ (c : Behaviour) (names : List ℕ) (k x home : ℕ) (run : List ℕ) (i : ℕ) where
  pub more-steps : i < length run
      → followed c names k x home (drop i run)
      ≡ seen_line c names k x (get_or run i 0) ++ followed c names (k + 1) (next_state c (get_or run i 0) (get_or names (get_or run i 0) 0) x home) (next_home c (get_or run i 0) x home) (drop (i + 1) run)
  unfolding followed
  more-steps h = rw (here 0 run i h) refl

  pub no_steps : length run ≤ i → followed c names k x home (drop i run) ≡ []
  unfolding followed
  no_steps h = rw (drop_of_length-le run h) refl
