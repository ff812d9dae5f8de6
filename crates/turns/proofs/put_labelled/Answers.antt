use Rattle.std.proofs.Common.{arith}
use Rattle.base.proofs.Lists.{put_then}
use Rattle.turns.proofs.Digits.{decimal_short}
use Rattle.turns.proofs.put_labelled.Goals as goal

pub returns : goal.returns
returns c = (
  put_then c.put_text-behind.ensures c.put_decimal.ensures,
  omega (arith, c.put_text-behind.ensures.cursor, c.put_decimal.ensures.cursor, decimal_short c.args.n),
)
