use native.Mathlib.Omega.{arith}
use Rattle.base.proofs.Words.{looking_first, stored, line_passed, byte_stored, byte_passed}
use Rattle.base.proofs.put_line_of.Goals as goal
use Rattle.base.proofs.put_line_of.Goals.{then-b-eq10, else-b-eq10+then-line-n, else-b-eq10+else-line-n}

pub loop-b-init : goal.loop-b-init
loop-b-init c = looking_first _ _ _ _

pub returns : goal.returns
returns c = let s = c.loop-b.invariant in
    stored s (omega (arith, s.looked, c.loop-b-test.false))

pub loop-b-preserved : goal.loop-b-preserved
loop-b-preserved c =
    let s = c.loop-b.invariant in
    let more = c.loop-b-test.true in
    elim c.if-b-eq10.branch [
      | then-b-eq10 w ↦ rw (w.out-is, w.line-is, w.to-is) (line_passed s more w.if-b-eq10.true)
      | else-b-eq10+then-line-n w ↦ rw (w.out-is, w.line-is, w.to-is) (byte_stored s more w.if-b-eq10.false w.if-line-n.true)
      | else-b-eq10+else-line-n w ↦ rw (w.out-is, w.line-is, w.to-is) (byte_passed s more w.if-b-eq10.false w.if-line-n.false)
    ]
