use lib.ListN.{length}
use Rattle.obu.specs.Records.{obus_in}
use Rattle.packetizer.specs.Call.{sizes}
use Rattle.packetizer.specs.Cursor.{to_come}
use Rattle.packetizer.proofs.Comparing.{Passed}
use Rattle.packetizer.proofs.cursor.same_packets.Given as goal

abbrev pub invariant-loop-obu : goal.invariant-loop-obu
invariant-loop-obu l = Passed l.mtu (sizes (obus_in l.obus)) l.plan l.obu l.from l.start l.n

abbrev pub decreases-loop-obu : goal.decreases-loop-obu
decreases-loop-obu l = length (to_come l.room (sizes (obus_in l.obus)) l.obu l.from l.start)
