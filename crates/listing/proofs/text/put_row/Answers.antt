use Rattle.std.proofs.Common.{arith}
use Rattle.base.specs.Lists.{Put}
use Rattle.base.proofs.Lists.{put_then}
use Rattle.listing.specs.Row.{row_text}
use Rattle.listing.proofs.Turning.{printed}
use Rattle.listing.proofs.text.put_row.Goals as goal

pub returns : goal.returns
unfolding row_text
returns c = let all : Put c.args.out.now _ 0 _ (row_text c.args.row) =
    put_then c.put_columns-header.ensures.0 (put_then c.put_byte-behind.ensures (put_then c.put_labelled-end.ensures.0 c.put_text.ensures)) in
    printed all (omega arith)
    (omega (arith, all.cursor, c.put_columns-header.ensures.1, c.put_byte-behind.ensures.cursor, c.put_labelled-end.ensures.1, c.put_text.ensures.cursor))
