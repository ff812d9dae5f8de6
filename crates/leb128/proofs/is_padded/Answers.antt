use Rattle.std.proofs.Common.{sym, ◌∙◌, arith}
use borrow.Author.Tests.{le-ltb, lt-leb}
use Rattle.leb128.proofs.Writing.{encode_pos}
use Rattle.leb128.proofs.is_padded.Goals as goal

pub returns-else-used-ge2 : goal.returns-else-used-ge2
returns-else-used-ge2 c =
    lt-leb 2 c.args.used c.if-used-ge2.false
    ∙ sym (le-ltb _ c.args.used (omega (arith, encode_pos 5 c.args.value (omega arith), c.if-used-ge2.false)))
