use Rattle.base.proofs.Words.{Looking}
use Rattle.base.proofs.put_line_of.Given as goal

abbrev pub invariant-loop-b : goal.invariant-loop-b
invariant-loop-b l = Looking l.n l.text l.initial.out l.at l.b-index l.line l.to l.out
