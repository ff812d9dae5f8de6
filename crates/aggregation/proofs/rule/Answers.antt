use mathlib.Core.Path.{◌≡◌, sym, ap, ◌∙◌}
use mathlib.Core.Bool.{◌&&◌}
use lib.Dec.{eqb}
use borrow.Author.Tests.{eq-eqb, ne_eqb}
use Rattle.base.specs.Answers.{given}
use Rattle.aggregation.specs.New.{new_sequence}
use Rattle.aggregation.specs.Inside.{is_new, is_outside}
use Rattle.aggregation.proofs.Sequences.{seen_outside, seen_new}
use Rattle.aggregation.proofs.rule.Goals.{then-k-eq0, else-k-eq0}
use Rattle.aggregation.proofs.rule.Goals as goal

pub returns-then-is_outside : goal.returns-then-is_outside
returns-then-is_outside c = λ unit obus size seen.
    rw (sym (seen_outside unit obus) ∙ ap is_outside (sym seen) ∙ sym c.is_outside.ensures ∙ c.if-is_outside.true)

pub returns : goal.returns
returns c = λ unit obus size seen.
    let inside = sym (seen_outside unit obus) ∙ ap is_outside (sym seen) ∙ sym c.is_outside.ensures ∙ c.if-is_outside.false in
    let new : c.if-k-eq0.new ≡ (eqb c.args.k 0 && new_sequence unit obus) = elim c.if-k-eq0.branch [
      | then-k-eq0 w ↦ rw (eq-eqb _ 0 w.if-k-eq0.true) (w.new-is ∙ w.is_new-new.ensures ∙ ap is_new seen ∙ seen_new unit obus inside)
      | else-k-eq0 w ↦ rw (ne_eqb _ 0 w.if-k-eq0.false) (w.new-is ∙ ne_eqb _ 0 w.if-k-eq0.false)
    ] in
    rw inside (ap given (c.header_bits.ensures unit obus c.args.k size new))
