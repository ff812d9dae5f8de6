use mathlib.Core.Path.{sym, ap₂, ◌∙◌}
use Prim.Native.Nat.{ℕ}
use native.Mathlib.Omega.{arith}
use mathlib.Core.List.{List}
use lib.Seq.{length-take-le}
use Rattle.std.proofs.lemmas.Result.{err_from_is_err_and}
use Rattle.packetizer.specs.Plan.{plan_of}
use Rattle.packetizer.specs.Call.{same_packets}
use Rattle.packetizer.proofs.Same.{SameObus, same_obus, same_sizes, same_count, same_comparable, same_1, same_answered}
use Rattle.packetizer.proofs.same_plan.Goals.{In_ok-kept}
use Rattle.packetizer.proofs.same_plan.Goals as goal

-- the OBU list is the unit's
same : (c : In_ok-kept) → SameObus c.args.unit.now c.args.obus.now c.in_ok-kept.kept
same c = same_obus c.in_ok-kept.ensures

pub returns-then-mtu-gt-MTU_LIMIT : goal.returns-then-mtu-gt-MTU_LIMIT
returns-then-mtu-gt-MTU_LIMIT c = let a = c.args in
    rw c.into.ensures (same_1 a.mtu a.unit.now a.obus.now a.plan.now c.if-mtu-gt-MTU_LIMIT.true)

pub overflow_mul-kept : goal.overflow_mul-kept
overflow_mul-kept c =
    omega (arith, (same (goal.at.overflow_mul-kept c).In_ok-kept).long)

pub slice_bounds-same_packets-end : goal.slice_bounds-same_packets-end
slice_bounds-same_packets-end c =
    sym (length-take-le _ _ (same (goal.at.slice_bounds-same_packets-end c).In_ok-kept).long)

pub same_packets-requires : goal.same_packets-requires
same_packets-requires c =
    same_comparable (same (goal.at.same_packets-requires c).In_ok-kept) c.if-mtu-gt-MTU_LIMIT.false

pub returns-in_err-kept : goal.returns-in_err-kept
returns-in_err-kept c = let a = c.args in
    let p = err_from_is_err_and c.from_residual.result c.from_residual.ensures.1 in
    rw (p.1, p.2) (same_answered a.mtu a.unit.now a.obus.now a.plan.now c.if-mtu-gt-MTU_LIMIT.false _ c.in_err-kept.ensures)

pub returns : goal.returns
returns c = let a = c.args in
    let s = same (goal.at.returns c).In_ok-kept in
    c.same_packets.ensures
    ∙ ap₂ (λ (sizes : List ℕ) (n : ℕ). same_packets (plan_of a.mtu sizes) a.plan.now n) (same_sizes s) (same_count s)
    ∙ same_answered a.mtu a.unit.now a.obus.now a.plan.now c.if-mtu-gt-MTU_LIMIT.false _ c.in_ok-kept.ensures
