use native.Mathlib.Omega.{arith}
use Rattle.base.specs.Lists.{Put}
use Rattle.base.proofs.Lists.{put_then, put_front}
use Rattle.unpacking.specs.Unpack.{losses_line}
use Rattle.unpacking.proofs.losses.put_losses.Goals as goal

pub returns : goal.returns
unfolding losses_line
returns c = let all : Put c.args.line.now _ 0 _ (losses_line c.args.losses) =
    put_then c.put_labelled-passed.ensures.0
    (put_then c.put_labelled-open.ensures.0 (put_then c.put_labelled-end.ensures.0 c.put_text.ensures)) in
    put_front all
    (omega (arith, c.put_labelled-passed.ensures.1, c.put_labelled-open.ensures.1, c.put_labelled-end.ensures.1, c.put_text.ensures.cursor))
