use mathlib.Core.Path.{◌≡◌}
use lib.ListN.{drop}
use Rattle.obu.specs.Records.{obus_in}
use Rattle.packetizer.specs.Plan.{plan_from}
use Rattle.packetizer.specs.Call.{sizes}
use Rattle.packetizer.specs.Cursor.{Fillable}
use Rattle.packetizer.proofs.cursor.fill_packet.Given as goal

abbrev pub invariant-loop-i : goal.invariant-loop-i
invariant-loop-i l = (plan_from l.room l.first (drop l.first (sizes (obus_in l.obus))) l.initial.p ≡ plan_from l.room l.i (drop l.i (sizes (obus_in l.obus))) l.p)
    × Fillable l.room (sizes (obus_in l.obus)) l.i l.p
