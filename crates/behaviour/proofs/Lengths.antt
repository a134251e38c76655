-- The lengths of a value's arrays, from what owning the value tells (`c.good`), for the code of every crate above.
use mathlib.Core.List.{List}
use mir.Val.{Val}
use denote.Laws.{Is}
use denote.Struct.Laws as struct
use Rattle.behaviour.specs.declared.Behaviour.{Behaviour}
use Rattle.behaviour.specs.SoundLaws.{Sized}
use Rattle.behaviour.specs.contracts.Behaviour as behaviour
use Rattle.behaviour.proofs.Behaviour.TheLaws as laws

pub sized : (b : Behaviour) (vs : List Val) → Is behaviour.the_row b vs → Sized b
sized b vs h =
    let o = struct.owed behaviour.the_type laws.the_laws b vs h in
    record {
      marks = o.1.1.1.0.1.0.1;
      signs = o.1.1.1.1.0.1.0.1;
      messages = o.0.1.0.1;
    }
