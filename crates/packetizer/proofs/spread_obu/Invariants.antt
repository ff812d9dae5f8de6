use Prim.Native.Nat.{◌-◌}
use Rattle.packetizer.proofs.Spreading.{Spreading}
use Rattle.packetizer.proofs.spread_obu.Given as goal

abbrev pub invariant-loop-offset : goal.invariant-loop-offset
invariant-loop-offset g l = Spreading g.R.Recording.stored l.room l.i l.size l.from l.start l.records l.initial.plan l.plan l.n l.offset l.next

abbrev pub decreases-loop-offset : goal.decreases-loop-offset
decreases-loop-offset g l = l.size - l.offset
