use native.Mathlib.Omega.{arith}
use Rattle.obu.proofs.Records.{obu_in}
use Rattle.obu.proofs.obu_at.Goals as goal

pub returns : goal.returns
returns c = let a = c.args in
    obu_in a.obus.now a.i (omega arith)
