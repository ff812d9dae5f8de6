-- The next turn can be carried out.
use Rattle.running.proofs.run_all.Given as goal

abbrev pub invariant-loop : goal.invariant-loop
invariant-loop g l = g.P.Program.can_go l.program
