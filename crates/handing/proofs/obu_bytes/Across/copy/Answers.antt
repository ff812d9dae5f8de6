use Prim.Native.Nat.{◌-◌}
use native.Mathlib.Omega.{arith}
use lib.ListN.{length, drop, length-append, length-drop}
use Rattle.handing.proofs.Across.{copied, copied_both, copied_last}
use Rattle.handing.proofs.obu_bytes.Across.copy.Goals as goal

pub returns-then-skip-kept : goal.returns-then-skip-kept
returns-then-skip-kept c = let a = c.args in
    let s = a.self.stored.now in
    let e = a.self.element.now in
    let n = length-append s e in
    copied_both s e a.to.now a.at a.skip c.if-skip-kept.true (omega arith)
    (copied _ _ (drop a.skip s) (omega (arith, length-drop a.skip s)) (omega arith) c.copy_bytes-next.ensures.1)
    c.copy_bytes-next.ensures.0
    (copied _ _ e (omega arith) (omega arith) c.copy_bytes.ensures.1)

pub returns-else-skip-kept : goal.returns-else-skip-kept
returns-else-skip-kept c = let a = c.args in
    let s = a.self.stored.now in
    let e = a.self.element.now in
    let n = length-append s e in
    copied_last s e a.to.now a.at a.skip c.if-skip-kept.false
    (copied _ _ (drop (a.skip - length s) e) (omega (arith, length-drop (a.skip - length s) e)) (omega arith) c.copy_bytes-else-skip-kept.ensures.1)
