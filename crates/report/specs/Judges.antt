-- What is told of two sound values.
use Rattle.std.specs.Prelude.{◌≡◌, List, ℕ, length}
use Rattle.behaviour.specs.declared.Behaviour.{Behaviour}
use Rattle.behaviour.specs.SoundLaws.{Sized}
use Rattle.stands.specs.Judgement.{Judgement, Judged}
use Rattle.verdict.specs.Answer.{BothSound}
use Rattle.report.specs.Said.{Reported}
use Rattle.report.specs.Output.{judged_text}
use Rattle.report.specs.Reports.{Tells}

-- two values that files gave, and room for every run
pub record CanJudge (c s : Behaviour) (run : List ℕ) : Type 0 where
  pub sounds : BothSound c s
  pub client : Sized c
  pub server : Sized s
  pub room : length run ≡ 12100

-- the text of the pair's judgement is told
pub record Judges (c s : Behaviour) (out : List ℕ) (r : Reported) (e : List ℕ) : Type 0 where
  pub judgement : Judgement
  pub judged : Judged c s judgement
  pub told : Tells (judged_text c s judgement) out r e
