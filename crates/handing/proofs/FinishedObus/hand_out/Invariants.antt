use Rattle.handing.proofs.Turns.{Handing}
use Rattle.handing.proofs.FinishedObus.hand_out.Given as goal

abbrev pub invariant-loop-i : goal.invariant-loop-i
invariant-loop-i g l = Handing l.self.payload.now l.self.store.now l.self.from l.self.to l.self.joined g.O.Output.written l.initial.out l.at l.i l.kept l.sum l.out
