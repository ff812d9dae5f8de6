use Prim.Native.Nat.{◌-◌}
use lib.ListN.{length}
use Rattle.element.proofs.Walking.{Walking}
use Rattle.element.proofs.in_turn.walk_to_end.Given as goal

abbrev pub invariant-loop-at : goal.invariant-loop-at
invariant-loop-at l = Walking l.payload 0 l.k l.at l.all

abbrev pub decreases-loop-at : goal.decreases-loop-at
decreases-loop-at l = length l.payload - l.at
