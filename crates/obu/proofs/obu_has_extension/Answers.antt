use Rattle.base.proofs.Bits.{bit_test}
use Rattle.obu.proofs.obu_has_extension.Goals as goal

pub returns : goal.returns
returns c = bit_test 2 c.args.header
