use mathlib.Core.Path.{ap, ◌∙◌}
use Prim.Native.Nat.{◌*◌}
use mathlib.Core.List.{flat_map}
use lib.Seq.{sets}
use Rattle.packetizer.specs.Records.{plan_numbers}
use Rattle.packetizer.proofs.StoredRecording.put.Goals as goal

pub returns : goal.returns
unfolding flat_map
returns c =
    c.put_numbers.ensures ∙ ap (sets c.args.plan.now (c.args.n * plan_numbers)) c.numbers.ensures
