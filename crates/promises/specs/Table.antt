-- "Refusal numbers" of 01: each number with the place that it is given at.
use Rattle.std.specs.Prelude.{ℕ, ◌+◌, ◌<◌, ◌≤◌}
use Rattle.behaviour.specs.declared.Refusal.{Refusal}
use Rattle.behaviour.specs.Refusals.{row_number}
use Rattle.behaviour.specs.Limits.{most_states, most_lines}

-- "Lines count from 1, the first line being 1": a line after the first, or what follows the last
pub record Line (p : ℕ) : Type 0 where
  pub after_first : 2 ≤ p
  pub before-end : p ≤ most_lines + 2

pub data Table : ℕ → ℕ → Type 0 where
  file-over : Table 1 0
  first-line-not_of_the_shape : Table 2 1
  start-state-not_0 : Table 3 1
  outside_its_range : Table 4 1
  line-not_of_the_shape : {p : ℕ} → Line p → Table 5 p
  state-not-below : {p : ℕ} → Line p → Table 6 p
  label-not_one_of_the_three : {p : ℕ} → Line p → Table 7 p
  mark_elsewhere : {p : ℕ} → Line p → Table 8 p
  taking_and_sending : {p : ℕ} → Line p → Table 9 p
  same-name_again : {p : ℕ} → Line p → Table 10 p
  finished-marked : {x : ℕ} → x < most_states → Table 11 x
  longer_than_lent : Table 12 0
  no-file_gives_it : Table 13 0
  not-compliant : Table 14 0
  no-stand : Table 15 0
  message-not-possible : Table 16 0
  rollback-not-possible : Table 17 0

-- "by a number from 01's table"
abbrev pub InTable : Refusal → Type 0
InTable f = Table (row_number f.reason) f.place
