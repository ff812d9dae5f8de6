use mathlib.Core.Path.{◌≡◌}
use Prim.Native.Nat.{◌-◌}
use native.Mathlib.Omega.{arith}
use mathlib.Core.Bool.{true}
use borrow.Author.Rules.{rules}
use borrow.Author.Tests.{lt-ltb, le-ltb}
use lib.ListN.{length}
use Rattle.element.specs.Elements.{is_due}
use Rattle.element.proofs.Laws.{part_lies}
use Rattle.element.proofs.Walking.{unwalked, walking_first, walking_countable, walking_bad, walking_next, walking_end, read_always}
use Rattle.element.proofs.in_turn.walk_to_end.Goals as goal

pub loop-at-init : goal.loop-at-init
loop-at-init c = let l = c.args.payload.now in
    let e : c.default-all.result ≡ unwalked = search rules in
    rw e (walking_first l 0 c.args.k c.requires.0.0 (lt-ltb 0 (length l - 1) (omega (arith, c.requires.1))))

pub returns-in_err-part : goal.returns-in_err-part
returns-in_err-part c =
    let due : is_due 0 c.loop-at.all.elements (length c.args.payload.now - c.loop-at.at) ≡ true = lt-ltb 0 (length c.args.payload.now - c.loop-at.at) (omega (arith, c.loop-at-test.true)) in
    let h = walking_bad c.loop-at.invariant due (read_always c.loop-at.all.elements _ _ c.in_err-part.ensures) in search rules

pub with_part-all-requires : goal.with_part-all-requires
with_part-all-requires c = walking_countable c.loop-at.invariant c.requires.0.1 (read_always c.loop-at.all.elements _ _ c.in_ok-part.ensures)

pub loop-at-smaller : goal.loop-at-smaller
loop-at-smaller c = let l = part_lies _ _ _ _ c.loop-at.invariant.inside (read_always c.loop-at.all.elements _ _ c.in_ok-part.ensures) in
    omega arith

pub loop-at-preserved : goal.loop-at-preserved
loop-at-preserved c =
    let due : is_due 0 c.loop-at.all.elements (length c.args.payload.now - c.loop-at.at) ≡ true = lt-ltb 0 (length c.args.payload.now - c.loop-at.at) (omega (arith, c.loop-at-test.true)) in
    walking_next c.loop-at.invariant due (read_always c.loop-at.all.elements _ _ c.in_ok-part.ensures) c.with_part-all.ensures

pub returns : goal.returns
returns c = walking_end c.loop-at.invariant (le-ltb 0 (length c.args.payload.now - c.loop-at.at) (omega (arith, c.loop-at-test.false)))
