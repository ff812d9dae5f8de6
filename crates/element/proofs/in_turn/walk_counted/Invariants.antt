use Prim.Native.Nat.{◌-◌}
use lib.ListN.{length}
use Rattle.element.proofs.Walking.{Walking}
use Rattle.element.proofs.in_turn.walk_counted.Given as goal

abbrev pub invariant-loop-all : goal.invariant-loop-all
invariant-loop-all l = Walking l.payload l.w l.k l.at l.all

abbrev pub decreases-loop-all : goal.decreases-loop-all
decreases-loop-all l = length l.payload - l.at
