use Rattle.std.proofs.Common.{◌≤◌, length, ap, arith}
use lib.Seq.{length-sets}
use Rattle.base.specs.Lists.{Put}
use Rattle.base.proofs.Lists.{put_then, put_front}
use Rattle.turns.proofs.Digits.{decimal_short}
use Rattle.padding.specs.Padded.{line_of}
use Rattle.padding.proofs.put_line.Goals as goal

pub put_labelled-end-requires : goal.put_labelled-end-requires
put_labelled-end-requires c = let put = c.put_decimal-blank.ensures in
    omega (arith, c.requires, put.cursor, decimal_short c.args.k, simp length-sets at (ap length put.stored))

pub put_text-requires : goal.put_text-requires
put_text-requires c = let put = c.put_decimal-blank.ensures in
    let more = c.put_labelled-end.ensures in
    omega (arith, c.requires, put.cursor, decimal_short c.args.k, simp length-sets at (ap length put.stored), more.1, simp length-sets at (ap length more.0.stored))

pub returns : goal.returns
unfolding line_of
returns c = let all : Put c.args.written.now _ 0 _ (line_of c.args.k c.args.padded) =
    put_then c.put_decimal-blank.ensures (put_then c.put_labelled-end.ensures.0 c.put_text.ensures) in
    let short : c.put_text.result ≤ length c.args.written.now = omega (arith, c.requires, c.put_decimal-blank.ensures.cursor, decimal_short c.args.k, c.put_labelled-end.ensures.1, c.put_text.ensures.cursor) in
    let stands = put_front all short in
    (stands.0, omega (arith, short, c.requires), stands.1)
