use Prim.Native.Nat.{◌-◌}
use lib.ListN.{length}
use Rattle.obu.proofs.Counts.{Counted}
use Rattle.obu.proofs.unit.count_obus.Given as goal

abbrev pub invariant-loop-at : goal.invariant-loop-at
invariant-loop-at l = Counted l.unit l.space l.at l.obus l.padded

abbrev pub decreases-loop-at : goal.decreases-loop-at
decreases-loop-at l = length l.unit - l.at
