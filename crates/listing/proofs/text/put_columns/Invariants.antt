use Rattle.listing.proofs.Columns.{Columns}
use Rattle.listing.proofs.text.put_columns.Given as goal

abbrev pub invariant-loop-n : goal.invariant-loop-n
invariant-loop-n l = Columns l.numbers l.initial.out l.out l.n-index l.at
