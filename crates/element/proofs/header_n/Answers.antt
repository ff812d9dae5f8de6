use Rattle.base.proofs.Bits.{bit_test}
use Rattle.element.proofs.header_n.Goals as goal

pub returns : goal.returns
returns c = bit_test 3 c.args.header
