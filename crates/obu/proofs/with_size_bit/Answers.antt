use Rattle.base.proofs.Bits.{set_bit1}
use native.Mathlib.Omega.{arith}
use Rattle.obu.proofs.with_size_bit.Goals as goal

pub returns : goal.returns
returns c = omega (arith, set_bit1 c.args.header)
