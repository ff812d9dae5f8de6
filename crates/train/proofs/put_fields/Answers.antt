use mathlib.Core.Path.{ap}
use native.Mathlib.Omega.{arith}
use lib.ListN.{length}
use lib.Seq.{length-sets}
use Rattle.base.proofs.BigEndian.{big_length}
use Rattle.base.proofs.Lists.{put_then}
use Rattle.train.proofs.put_fields.Goals as goal

pub put_number-requires : goal.put_number-requires
put_number-requires c = let first = c.put_number-after.ensures in
    omega (arith, simp big_length at first.cursor, simp length-sets at (ap length first.stored))

pub returns : goal.returns
returns c = put_then c.put_number-after.ensures c.put_number.ensures
