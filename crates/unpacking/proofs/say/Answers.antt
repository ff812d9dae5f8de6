use Rattle.unpacking.specs.Unpack.{payload_bytes, output_bytes}
use Rattle.unpacking.specs.Steps.{awaits}
use Rattle.unpacking.proofs.Turning.{gives}
use Rattle.unpacking.proofs.say.Goals as goal

pub returns : goal.returns
returns c = let t = rw c.awaiting.ensures at (c.saying.ensures payload_bytes output_bytes) in gives (awaits c.args.place c.args.wait) t.0.place_is c.requires t
