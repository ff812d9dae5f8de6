use Prim.Native.Nat.{◌+◌, ◌-◌}
use lib.Dec.{ltb}
use Rattle.obu.specs.Unit.{obus_of}
use Rattle.packetizer.specs.Plan.{most_counted}
use Rattle.payloader.proofs.Bodies.{Writing}
use Rattle.payloader.proofs.Packets.{elements_by}
use Rattle.payloader.proofs.put_packet.Given as goal

abbrev pub invariant-loop-i : goal.invariant-loop-i
invariant-loop-i l = Writing l.unit (obus_of l.unit) (ltb most_counted l.p.num_obu_elements) l.p.last_obu_size (elements_by l.unit l.p) l.initial.out l.initial.cursor l.out l.i l.from (l.last + 1 - l.i) l.cursor
