use mathlib.Core.Path.{refl}
use native.Mathlib.Omega.{arith}
use mathlib.Core.List.{[]}
use Rattle.turns.proofs.Turning.{asked}
use Rattle.unpacking.specs.Steps.{version_bytes, starts_with}
use Rattle.unpacking.proofs.Turning.{gives}
use Rattle.unpacking.proofs.start.Goals as goal

pub returns : goal.returns
returns c = let p = starts_with.place in
    gives p refl (omega arith) (asked p [] 0 version_bytes refl refl c.ask.ensures refl (omega arith) (omega arith))
