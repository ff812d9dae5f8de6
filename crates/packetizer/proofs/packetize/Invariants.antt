use Rattle.obu.specs.Records.{obus_in}
use Rattle.packetizer.specs.Call.{sizes}
use Rattle.packetizer.proofs.Turns.{Placing}
use Rattle.packetizer.proofs.packetize.Given as goal

abbrev pub invariant-loop-i : goal.invariant-loop-i
invariant-loop-i g l = Placing g.R.Recording.stored l.room (sizes (obus_in l.obus)) l.initial.plan l.plan l.f.packet l.f.records l.i
