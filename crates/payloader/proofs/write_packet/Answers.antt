use mathlib.Core.Path.{◌∙◌}
use Rattle.payloader.specs.Call.{to_write}
use Rattle.payloader.proofs.Calls.{one_packet}
use Rattle.payloader.proofs.write_packet.Goals as goal

pub returns : goal.returns
returns c = let a = c.args in
    c.write_packets.ensures ∙ one_packet a.k (to_write a.mtu a.unit.now a.obus.now a.plan.now a.out.now)
