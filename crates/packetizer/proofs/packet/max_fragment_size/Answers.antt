use Rattle.packetizer.proofs.Fragments.{largest_less}
use Rattle.packetizer.proofs.packet.max_fragment_size.Goals as goal

pub returns : goal.returns
returns c = let f = c.largest_field.ensures in
    rw c.saturating_sub.ensures (largest_less f.some f.most f.passed f.below)
