use Prim.Native.Nat.{◌-◌}
use lib.ListN.{length}
use Rattle.obu.proofs.Compares.{Compared}
use Rattle.obu.proofs.compare.compare_obus.Given as goal

abbrev pub invariant-loop-at : goal.invariant-loop-at
invariant-loop-at l = Compared l.unit l.obus l.at l.n l.same

abbrev pub decreases-loop-at : goal.decreases-loop-at
decreases-loop-at l = length l.unit - l.at
