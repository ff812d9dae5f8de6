use Rattle.std.proofs.Common.{arith}
use Rattle.base.proofs.Lists.{put_then}
use Rattle.base.proofs.Words.{words_short}
use Rattle.turns.proofs.Digits.{decimal_short}
use Rattle.turns.proofs.put_refusal.Goals as goal

pub put_text-inside-requires : goal.put_text-inside-requires
put_text-inside-requires c = omega (arith, c.put_decimal-behind.ensures.cursor, decimal_short c.from.result)

pub put_words-end-requires : goal.put_words-end-requires
put_words-end-requires c = omega (arith, c.put_decimal-behind.ensures.cursor, c.put_text-inside.ensures.cursor, decimal_short c.from.result)

pub put_text-requires : goal.put_text-requires
put_text-requires c = omega (arith, c.put_decimal-behind.ensures.cursor, c.put_text-inside.ensures.cursor, c.put_words-end.ensures.cursor, decimal_short c.from.result, words_short c.args.number)

pub returns : goal.returns
returns c = put_then (rw c.from.ensures at c.put_decimal-behind.ensures) (put_then c.put_text-inside.ensures (put_then c.put_words-end.ensures c.put_text.ensures))
