use Rattle.std.proofs.Common.{arith}
use Rattle.base.specs.Lists.{Put}
use Rattle.base.proofs.Lists.{put_then}
use Rattle.listing.specs.Listing.{two_numbers}
use Rattle.listing.proofs.Turning.{printed}
use Rattle.listing.proofs.text.put_two.Goals as goal

pub returns : goal.returns
unfolding two_numbers
returns c = let all : Put c.args.out.now _ 0 _ (two_numbers c.args.first.now c.args.m c.args.second.now c.args.n) =
    put_then c.put_labelled-behind.ensures.0 (put_then c.put_labelled-end.ensures.0 c.put_text.ensures) in
    printed all (omega arith) (omega (arith, c.put_labelled-behind.ensures.1, c.put_labelled-end.ensures.1, c.put_text.ensures.cursor, c.requires))
