use native.Mathlib.Omega.{arith}
use Rattle.packetizer.proofs.Records.{packet_in_lem}
use Rattle.packetizer.proofs.packet_at.Goals as goal

pub returns : goal.returns
returns c = let a = c.args in
    packet_in_lem a.plan.now a.k (omega arith)
