use Rattle.std.proofs.Common.{[], sym, refl, ap, arith}
use Rattle.turns.proofs.Turning.{asked}
use Rattle.packing.specs.declared.Wait.TheVariants as wait
use Rattle.packing.specs.Steps.{awaits, length_told}
use Rattle.packing.proofs.Reading.{stated_within}
use Rattle.packing.proofs.Turning.{gives}
use Rattle.packing.proofs.length_step.Goals as goal

pub returns-in-Ok-Some : goal.returns-in-Ok-Some
returns-in-Ok-Some c = let s = c.in-Ok-Some.stated in
    let p = awaits c.args.place (wait.Unit s) in
    let e = rw (c.in-Ok-Some.is, c.in-Ok-Some.field-0-is) at c.read_unit_length.ensures in
    gives p c.awaiting-in-Ok-Some.ensures tt
    (asked p [] 0 s (ap (length_told c.args.place) (sym e)) c.awaiting-in-Ok-Some.ensures c.ask.ensures refl (omega arith) (stated_within c.args.got.now s e))
