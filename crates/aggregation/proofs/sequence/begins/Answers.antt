use mathlib.Core.Path.{◌≡◌, sym, ap, ◌∙◌}
use Prim.Native.Nat.{◌+◌}
use native.Mathlib.Omega.{arith}
use mathlib.Core.Bool.{false}
use lib.ListN.{drop}
use borrow.Author.Tests.{ltb-false}
use Rattle.obu.specs.Records.{obus_in}
use Rattle.obu.proofs.Records.{obus_count}
use Rattle.aggregation.specs.Inside.{is_new, seen_next, seen_after}
use Rattle.aggregation.specs.Header.{outside}
use Rattle.aggregation.specs.declared.Seen.{Seen}
use Rattle.aggregation.specs.declared.Seen.TheVariants.{Nothing}
use Rattle.aggregation.proofs.Sequences.{after_settled, seen_new, unsettled_clear, outside_drop, inside_at, seen_none, seen_step}
use Rattle.aggregation.proofs.sequence.begins.Goals.{After-obu_at, After-see_inside-seen}
use Rattle.aggregation.proofs.sequence.begins.Goals as goal

-- the OBU lies in the unit
near : (c : After-obu_at) → outside c.args.unit.now c.obu_at.result ≡ false
near c =
    ap (outside c.args.unit.now) c.obu_at.ensures
    ∙ inside_at c.args.unit.now (obus_in c.args.obus.now) c.loop-i.i (omega (arith, obus_count c.args.obus.now)) c.requires

-- the others go on from what is seen now
looked : (c : After-see_inside-seen) → outside c.args.unit.now c.obu_at.result ≡ false
    → seen_after c.args.unit.now c.see_inside-seen.result (drop (c.loop-i.i + 1) (obus_in c.args.obus.now)) ≡ seen_after c.args.unit.now Nothing (obus_in c.args.obus.now)
looked c h =
    let unit = c.args.unit.now in
    let obus = obus_in c.args.obus.now in
    let next : seen_next unit c.loop-i.seen c.obu_at.result ≡ c.see_inside-seen.result = rw h (sym c.see_inside-seen.ensures) in
    ap (λ (v : Seen). seen_after unit v (drop (c.loop-i.i + 1) obus)) (sym next ∙ ap (seen_next unit c.loop-i.seen) c.obu_at.ensures)
    ∙ sym (seen_step unit obus c.loop-i.i (omega (arith, obus_count c.args.obus.now)) c.loop-i.seen)
    ∙ c.loop-i.invariant.1

pub see_inside-seen-requires : goal.see_inside-seen-requires
see_inside-seen-requires c = ltb-false _ _ (near (goal.at.see_inside-seen-requires c).After-obu_at)

pub returns-then-is_settled : goal.returns-then-is_settled
returns-then-is_settled c =
    let unit = c.args.unit.now in
    let obus = obus_in c.args.obus.now in
    let s = goal.at.returns-then-is_settled c in
    c.is_new.ensures
    ∙ ap is_new
    (sym (after_settled unit c.see_inside-seen.result (drop (c.loop-i.i + 1) obus) (outside_drop unit obus (c.loop-i.i + 1) c.requires) (sym c.is_settled.ensures ∙ c.if-is_settled.true))
    ∙ looked s.After-see_inside-seen (near s.After-obu_at))
    ∙ seen_new unit obus c.requires

pub loop-i-preserved : goal.loop-i-preserved
loop-i-preserved c =
    let s = goal.at.loop-i-preserved c in
    (sym c.is_settled.ensures ∙ c.if-is_settled.false, looked s.After-see_inside-seen (near s.After-obu_at))

pub returns : goal.returns
returns c =
    let unit = c.args.unit.now in
    let obus = obus_in c.args.obus.now in
    sym (unsettled_clear c.loop-i.seen c.loop-i.invariant.0)
    ∙ ap is_new (sym (seen_none unit c.loop-i.seen obus c.loop-i.i (omega (arith, obus_count c.args.obus.now))) ∙ c.loop-i.invariant.1)
    ∙ seen_new unit obus c.requires
