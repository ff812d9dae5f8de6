use Rattle.base.proofs.Bits.{clear_bit1}
use Rattle.obu.proofs.without_size_bit.Goals as goal

pub returns : goal.returns
returns c = clear_bit1 c.args.header c.ranges.header.fits
