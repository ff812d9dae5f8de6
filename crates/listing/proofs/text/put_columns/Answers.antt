use Rattle.std.proofs.Common.{rules}
use Rattle.listing.proofs.Columns.{no_columns, columns_next}
use Rattle.listing.proofs.text.put_columns.Goals as goal

pub loop-n-init : goal.loop-n-init
loop-n-init c = no_columns _ _

pub loop-n-preserved : goal.loop-n-preserved
loop-n-preserved c = let put = c.put_column-at.ensures in
    columns_next c.loop-n.invariant c.loop-n-test.true put.0 put.1 (search rules)
