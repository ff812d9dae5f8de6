use native.Mathlib.Omega.{arith}
use Rattle.base.proofs.Lists.{put_then}
use Rattle.turns.proofs.Digits.{decimal_short}
use Rattle.listing.proofs.text.put_column.Goals as goal

pub put_text-requires : goal.put_text-requires
put_text-requires c = omega (arith, c.put_decimal-blank.ensures.cursor, decimal_short c.args.n)

pub returns : goal.returns
returns c = (put_then c.put_decimal-blank.ensures c.put_text.ensures, omega (arith, c.put_decimal-blank.ensures.cursor, c.put_text.ensures.cursor, decimal_short c.args.n))
