use Rattle.packing.specs.declared.Wait.TheVariants as wait
use Rattle.packing.proofs.Turning.{ready_wider, stepped}
use Rattle.packing.proofs.step.Goals as goal

pub returns-in-Packets : goal.returns-in-Packets
returns-in-Packets c = let a = c.args in
    stepped a.place a.came _ (wait.Packets _) a.input.now _ _ a.written.now c.in-Ok.is c.in-Packets.is
    (c.packet_step.ensures.0 _)
    c.packet_step.ensures.1
    (ready_wider c.packet_step.result.place.wait c.packet_step.result.place.mtu c.in-Packets.progress.unit a.input.now _ _ c.packet_step.ensures.2)
