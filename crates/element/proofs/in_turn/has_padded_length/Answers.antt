use mathlib.Core.Path.{sym}
use borrow.Author.Rules.{rules}
use Rattle.element.proofs.Padded.{padded_none, padded_last}
use Rattle.element.proofs.in_turn.has_padded_length.Goals as goal

pub returns-then-part-at-ge2 : goal.returns-then-part-at-ge2
returns-then-part-at-ge2 c = sym (padded_last c.requires c.if-part-at-ge2.true)

pub returns-else-part-at-ge2 : goal.returns-else-part-at-ge2
returns-else-part-at-ge2 c = let h = padded_none c.args.at c.args.part c.if-part-at-ge2.false in search rules
