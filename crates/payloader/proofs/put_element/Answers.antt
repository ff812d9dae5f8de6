use mathlib.Core.Path.{◌∙◌}
use native.Mathlib.Omega.{arith}
use Rattle.leb128.specs.Field.{encode}
use Rattle.payloader.proofs.Parts.{put_behind}
use Rattle.payloader.proofs.put_element.Goals.{then-field, else-field}
use Rattle.payloader.proofs.put_element.Goals as goal

pub returns : goal.returns
returns c =
    let a = c.args in
    elim c.if-field.branch [
      | then-field w ↦ rw w.if-field.true (
        omega (arith, c.put_part.ensures.0, w.next-is, w.put_leb128-next.ensures.0),
        put_behind a.out.now (encode a.n) _ a.at (omega (arith, rw w.if-field.true at c.requires.n_in_bounds)) (w.next-is ∙ w.put_leb128-next.ensures.0)
            (w.out-is ∙ w.put_leb128-next.ensures.1) c.put_part.ensures.1,
      )
      | else-field w ↦ rw w.if-field.false (omega (arith, c.put_part.ensures.0, w.next-is), rw (w.out-is, w.next-is) at c.put_part.ensures.1)
    ]
