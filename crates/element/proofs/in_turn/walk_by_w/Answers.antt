use mathlib.Core.Path.{◌≡◌, sym, ap}
use Prim.Native.Nat.{◌-◌}
use native.Mathlib.Omega.{arith}
use lib.ListN.{length}
use borrow.Author.Tests.{eq-eqb, le-ltb}
use Rattle.element.specs.Paper.{walked}
use Rattle.element.proofs.Laws.{from_none}
use Rattle.element.proofs.in_turn.walk_by_w.Goals as goal

pub returns-then-payload-eq1 : goal.returns-then-payload-eq1
returns-then-payload-eq1 c = let a = c.args in
    let e : a.w ≡ 0 = omega (arith, c.if-w-gt0.false) in
    sym (ap (walked a.k) (from_none a.payload.now a.w (rw (eq-eqb a.w 0 e) (le-ltb 0 (length a.payload.now - 1) (omega (arith, c.if-payload-eq1.true))))))
