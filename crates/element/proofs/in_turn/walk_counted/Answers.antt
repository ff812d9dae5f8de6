use mathlib.Core.Path.{◌≡◌, sym}
use Prim.Native.Nat.{◌-◌}
use native.Mathlib.Omega.{arith}
use borrow.Author.Rules.{rules}
use mathlib.Core.Bool.{true}
use lib.ListN.{length, drop}
use Rattle.base.specs.Answers.{given}
use Rattle.element.specs.Elements.{element_at, is_due, has_field}
use Rattle.element.proofs.Laws.{part_lies}
use Rattle.element.proofs.Walking.{unwalked, walking_first, walking_countable, walking_bad, walking_next, walking_end, due_counted, due_no_more}
use Rattle.element.proofs.in_turn.walk_counted.Goals as goal

pub loop-all-init : goal.loop-all-init
loop-all-init c =
    let e : c.default-all.result ≡ unwalked = search rules in rw e
    (walking_first c.args.payload.now c.args.w c.args.k c.requires.0.0 (due_counted c.args.w 0 (length c.args.payload.now - 1) c.requires.1 c.requires.1))

pub returns-in_err-part : goal.returns-in_err-part
returns-in_err-part c =
    let due : let a = c.args in is_due a.w c.loop-all.all.elements (length a.payload.now - c.loop-all.at) ≡ true = due_counted _ _ (length c.args.payload.now - c.loop-all.at) c.requires.1 c.loop-all-test.true in
    let h = walking_bad c.loop-all.invariant (due) (sym c.in_err-part.ensures) in search rules

pub with_part-all-requires : goal.with_part-all-requires
with_part-all-requires c =
    let found : let a = c.args in element_at (has_field a.w c.loop-all.all.elements) c.loop-all.at (drop c.loop-all.at a.payload.now) ≡ given c.in_ok-part.part = sym c.in_ok-part.ensures in
    walking_countable c.loop-all.invariant c.requires.0.1 (found)

pub loop-all-smaller : goal.loop-all-smaller
loop-all-smaller c =
    let found : let a = c.args in element_at (has_field a.w c.loop-all.all.elements) c.loop-all.at (drop c.loop-all.at a.payload.now) ≡ given c.in_ok-part.part = sym c.in_ok-part.ensures in
    let l = part_lies _ _ _ _ c.loop-all.invariant.inside (found) in
    omega arith

pub loop-all-preserved : goal.loop-all-preserved
loop-all-preserved c =
    let due : let a = c.args in is_due a.w c.loop-all.all.elements (length a.payload.now - c.loop-all.at) ≡ true = due_counted _ _ (length c.args.payload.now - c.loop-all.at) c.requires.1 c.loop-all-test.true in
    let found : let a = c.args in element_at (has_field a.w c.loop-all.all.elements) c.loop-all.at (drop c.loop-all.at a.payload.now) ≡ given c.in_ok-part.part = sym c.in_ok-part.ensures in
    walking_next c.loop-all.invariant (due) (found) c.with_part-all.ensures

pub returns : goal.returns
returns c = walking_end c.loop-all.invariant (due_no_more _ _ (length c.args.payload.now - c.loop-all.at) c.requires.1 c.loop-all-test.false)
