use mathlib.Core.Bool.{true}
use Rattle.handing.proofs.Turns.{handing_first, handing_end}
use Rattle.handing.proofs.FinishedObus.write.Goals as goal

pub returns-then-self : goal.returns-then-self
returns-then-self c = let p = c.args.self.finishing in
    (handing_end (handing_first p true _) p c.if-self.true).1
