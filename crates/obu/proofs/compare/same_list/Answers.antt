use mathlib.Core.Path.{sym}
use Rattle.obu.proofs.Compares.{same_large}
use Rattle.obu.proofs.compare.same_list.Goals as goal

pub returns-then-unit-gt-UNIT_LIMIT : goal.returns-then-unit-gt-UNIT_LIMIT
returns-then-unit-gt-UNIT_LIMIT c = let a = c.args in rw c.into.ensures (sym (same_large a.unit.now a.obus.now c.if-unit-gt-UNIT_LIMIT.true))
