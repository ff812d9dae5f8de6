use Rattle.base.proofs.Bits.{bit_test}
use Rattle.element.proofs.header_y.Goals as goal

pub returns : goal.returns
returns c = bit_test 6 c.args.header
