use Rattle.packing.specs.Pack.{unit_store}
use Rattle.packing.specs.Steps.{record_room, awaits}
use Rattle.packing.specs.declared.Wait.TheVariants as wait
use Rattle.packing.proofs.Turning.{gives}
use Rattle.packing.proofs.say.Goals as goal

pub returns : goal.returns
returns c = let t = rw c.awaiting.ensures at (c.saying.ensures unit_store record_room) in gives (awaits c.args.place wait.Nothing) t.0.place_is tt t
