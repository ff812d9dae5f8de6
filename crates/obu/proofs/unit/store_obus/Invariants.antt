use Prim.Native.Nat.{◌-◌}
use lib.ListN.{length}
use Rattle.obu.proofs.Stores.{Stored}
use Rattle.obu.proofs.unit.store_obus.Given as goal

abbrev pub invariant-loop-at : goal.invariant-loop-at
invariant-loop-at l = Stored l.unit l.initial.obus l.obus l.at l.n

abbrev pub decreases-loop-at : goal.decreases-loop-at
decreases-loop-at l = length l.unit - l.at
