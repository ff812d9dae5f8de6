use Rattle.base.proofs.Bits.{bit_test}
use Rattle.obu.proofs.obu_has_size.Goals as goal

pub returns : goal.returns
returns c = bit_test 1 c.args.header
