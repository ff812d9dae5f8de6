use mathlib.Core.Path.{sym, ap, ◌∙◌}
use mathlib.Core.Bool.{not}
use borrow.Author.Tests.{eq-eqb, ne_eqb}
use Rattle.base.proofs.Bits.{bit_test}
use Rattle.aggregation.specs.New.{first_byte}
use Rattle.aggregation.proofs.sequence.see_sequence.Goals as goal

pub returns-then-unit-s-ne0 : goal.returns-then-unit-s-ne0
returns-then-unit-s-ne0 c = simp (ne_eqb _ _ c.if-s-eq0.false, sym (bit_test 3 (first_byte c.args.unit.now c.args.s)) ∙ ap not (ne_eqb _ 0 c.if-unit-s-ne0.true))

pub returns-else-unit-s-ne0 : goal.returns-else-unit-s-ne0
returns-else-unit-s-ne0 c = simp (ne_eqb _ _ c.if-s-eq0.false, sym (bit_test 3 (first_byte c.args.unit.now c.args.s)) ∙ ap not (eq-eqb _ 0 c.if-unit-s-ne0.false))
