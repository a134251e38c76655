-- `packing::message_of` meets its contract: the library's number of the name's bytes is that of the definition (Names).
use Rattle.std.proofs.Common.{◌≡◌, ap, ◌∙◌, length, take_all, drop, arith, length-drop}
use Rattle.std.specs.Int.{w64, from_be_bytes}
use Rattle.packing.specs.Value.{number_of}
use Rattle.packing.proofs.Names.{name_number}
use Rattle.packing.proofs.message_of.Goals as goal

pub returns : goal.returns
returns c =
    let s = c.args.bytes.now in
    let l : length (drop 2 s) ≡ 8 = omega (arith, length-drop 2 s) in
    let e : c.copy_from_slice.new.self ≡ drop 2 s = c.copy_from_slice.ensures.after ∙ take_all 8 (drop 2 s) (omega arith) in
    let f : c.from_be_bytes.result ≡ number_of 8 0 (drop 2 s) = c.from_be_bytes.ensures ∙ ap (from_be_bytes w64) e ∙ name_number (drop 2 s) l in
    rw f
