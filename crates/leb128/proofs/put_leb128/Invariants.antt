use Rattle.leb128.proofs.Writing.{Writing}
use Rattle.leb128.proofs.put_leb128.Given as goal

abbrev pub invariant-loop-rest : goal.invariant-loop-rest
invariant-loop-rest l = Writing l.initial.out l.at l.value l.out l.i l.rest

abbrev pub decreases-loop-rest : goal.decreases-loop-rest
decreases-loop-rest l = l.rest
