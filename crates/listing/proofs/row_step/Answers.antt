use Rattle.std.proofs.Common.{◌+◌, refl, sym, ◌∙◌, arith, length-take-le, lt-ltb}
use Rattle.listing.specs.Steps.{awaits}
use Rattle.listing.specs.declared.Wait.TheVariants as wait
use Rattle.listing.proofs.Lines.{filled_obus, filled_plan, filled_headed, filled_row}
use Rattle.listing.proofs.Turning.{wrote}
use Rattle.listing.proofs.row_step.Goals as goal

pub overflow_mul-listed : goal.overflow_mul-listed
overflow_mul-listed c = omega (arith, filled_obus c.requires)

pub overflow_mul-planned : goal.overflow_mul-planned
overflow_mul-planned c = omega (arith, filled_plan c.requires)

pub slice_bounds-row_at-end-2 : goal.slice_bounds-row_at-end-2
slice_bounds-row_at-end-2 c = sym (length-take-le _ c.args.obus.now (filled_obus c.requires))

pub slice_bounds-row_at-end-3 : goal.slice_bounds-row_at-end-3
slice_bounds-row_at-end-3 c = sym (length-take-le _ c.args.plan.now (filled_plan c.requires))

pub row_at-row-requires-clause-plan_numbers_in_bounds : goal.row_at-row-requires-clause-plan_numbers_in_bounds
row_at-row-requires-clause-plan_numbers_in_bounds c = omega (arith, c.if-place-k.false, length-take-le _ c.args.plan.now (filled_plan c.requires))

pub row_at-row-requires-clause-headed : goal.row_at-row-requires-clause-headed
row_at-row-requires-clause-headed c = filled_headed c.requires c.if-place-k.false

pub returns : goal.returns
returns c = let p = c.args.place in
    let e = c.row_at-row.ensures ∙ filled_row c.requires c.if-place-k.false in
    rw (lt-ltb c.args.k p.packets c.if-place-k.false)
    (wrote (awaits p (wait.Row (c.args.k + 1))) _ _ 0 refl c.awaiting-2.ensures c.ask.ensures (rw e at c.put_row-end.ensures) (omega arith))
