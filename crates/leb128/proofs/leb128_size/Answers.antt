use native.Mathlib.Omega.{arith}
use Rattle.leb128.proofs.Writing.{counting_first, counting_next, counting_last}
use Rattle.leb128.proofs.leb128_size.Goals as goal

pub loop-rest-init : goal.loop-rest-init
loop-rest-init c = counting_first c.args.value (omega arith)

pub loop-rest-preserved : goal.loop-rest-preserved
loop-rest-preserved c = counting_next _ _ _ c.loop-rest.invariant c.loop-rest-test.true

pub returns : goal.returns
returns c = counting_last _ _ _ c.loop-rest.invariant c.loop-rest-test.false
