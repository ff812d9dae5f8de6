use mathlib.Core.Path.{◌≡◌}
use Prim.Native.Nat.{◌+◌}
use mathlib.Core.Bool.{◌&&◌}
use lib.Dec.{eqb}
use Rattle.obu.specs.Unit.{obus_of}
use Rattle.aggregation.specs.New.{new_sequence}
use Rattle.payloader.proofs.Runs.{Sending}
use Rattle.payloader.proofs.put_packets.Given as goal

abbrev pub invariant-loop-n : goal.invariant-loop-n
invariant-loop-n l = Sending l.mtu l.unit l.first l.count l.initial.out l.out l.n l.at × (l.new ≡ (eqb (l.first + l.n) 0 && new_sequence l.unit (obus_of l.unit)))
