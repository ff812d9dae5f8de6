use mathlib.Core.Path.{◌≡◌, refl, sym, ap, ◌∙◌}
use Prim.Native.Nat.{ℕ, ◌*◌, ◌≤◌}
use native.Mathlib.Omega.{arith}
use mathlib.Core.Bool.{true, false, true≢false}
use mathlib.Core.List.{List}
use lib.ListN.{length, take}
use lib.Seq.{length-take-le}
use Rattle.std.proofs.lemmas.Result.{err_from_is_err_and}
use Rattle.base.specs.Refusals.{number_of}
use Rattle.obu.specs.Records.{obu_numbers, obus_in}
use Rattle.packetizer.specs.Plan.{plan_of}
use Rattle.packetizer.specs.Call.{sizes, unit_plan}
use Rattle.packetizer.specs.Paper.{recorded}
use Rattle.packetizer.specs.declared.PacketMetadata.{PacketMetadata}
use Rattle.packetizer.proofs.Calls.{Filled, list_long, list_sizes, list_plannable, outcome_1, outcome_listed, outcome_9, outcome_all}
use Rattle.packetizer.proofs.plan_unit.Goals.{In_ok-listed}
use Rattle.packetizer.proofs.plan_unit.Goals as goal

-- the list call lists the unit
filled : (c : In_ok-listed) → Filled c.args.unit.now c.args.obus.now c.parse_obus.new.obus c.in_ok-listed.listed
filled c =
    record { answer = c.in_ok-listed.ensures.0; after = c.in_ok-listed.ensures.1 }

long : (c : In_ok-listed) → c.in_ok-listed.listed.obus * obu_numbers ≤ length c.parse_obus.new.obus
long c = omega (arith, list_long (filled c), c.parse_obus.auto.obus)

-- the plan that is counted is the unit's
plan_is : (c : In_ok-listed)
    → plan_of c.args.mtu (sizes (obus_in (take (c.in_ok-listed.listed.obus * obu_numbers) c.parse_obus.new.obus))) ≡ unit_plan c.args.mtu c.args.unit.now
plan_is c = ap (plan_of c.args.mtu) (list_sizes (filled c))

count : (c : In_ok-listed) {n : ℕ}
    → n ≡ length (plan_of c.args.mtu (sizes (obus_in (take (c.in_ok-listed.listed.obus * obu_numbers) c.parse_obus.new.obus))))
    → n ≡ length (unit_plan c.args.mtu c.args.unit.now)
count c e = e ∙ ap length (plan_is c)

pub returns-then-mtu-gt-MTU_LIMIT : goal.returns-then-mtu-gt-MTU_LIMIT
returns-then-mtu-gt-MTU_LIMIT c = let a = c.args in
    rw c.into.ensures (outcome_1 a.mtu a.unit.now a.obus.now a.plan.now c.if-mtu-gt-MTU_LIMIT.true)

pub overflow_mul-filled : goal.overflow_mul-filled
overflow_mul-filled c =
    omega (arith, list_long (filled (goal.at.overflow_mul-filled c).In_ok-listed))

pub packetize-packets-requires : goal.packetize-packets-requires
packetize-packets-requires c =
    list_plannable (filled (goal.at.packetize-packets-requires c).In_ok-listed) false c.if-mtu-gt-MTU_LIMIT.false (λ w. absurd (true≢false (sym w)))

pub returns-then-plan-packets : goal.returns-then-plan-packets
returns-then-plan-packets c = let a = c.args in
    let f = filled (goal.at.returns-then-plan-packets c).In_ok-listed in
    let n = count (goal.at.returns-then-plan-packets c).In_ok-listed c.packetize-packets.ensures.0 in
    rw c.into-then-plan-packets.ensures (outcome_9 a.mtu a.unit.now a.obus.now a.plan.now c.if-mtu-gt-MTU_LIMIT.false _ f.after _ _ _ f.answer n c.if-plan-packets.true refl)

pub packetize-requires : goal.packetize-requires
packetize-requires c =
    let n = count (goal.at.packetize-requires c).In_ok-listed c.packetize-packets.ensures.0 in
    list_plannable (filled (goal.at.packetize-requires c).In_ok-listed) true c.if-mtu-gt-MTU_LIMIT.false (λ w. omega (arith, n, c.if-plan-packets.false))

pub returns-in_err-listed : goal.returns-in_err-listed
returns-in_err-listed c = let a = c.args in
    let p = err_from_is_err_and c.from_residual.result c.from_residual.ensures.1 in
    rw (p.1, p.2) (outcome_listed a.mtu a.unit.now a.obus.now a.plan.now c.if-mtu-gt-MTU_LIMIT.false _ c.in_err-listed.ensures.1 _ _ c.in_err-listed.ensures.0)

pub returns : goal.returns
returns c = let a = c.args in
    let f = filled (goal.at.returns c).In_ok-listed in
    let n = count (goal.at.returns c).In_ok-listed c.packetize-packets.ensures.0 in
    outcome_all a.mtu a.unit.now a.obus.now a.plan.now c.if-mtu-gt-MTU_LIMIT.false _ f.after _ _ _ f.answer n c.if-plan-packets.false
    (c.packetize.ensures.1 ∙ ap (recorded true c.args.plan.now 0) (plan_is (goal.at.returns c).In_ok-listed))

pub slice_bounds-filled-end : goal.slice_bounds-filled-end
slice_bounds-filled-end c = long (goal.at.slice_bounds-filled-end c).In_ok-listed

pub slice_bounds-filled-end-2 : goal.slice_bounds-filled-end-2
slice_bounds-filled-end-2 c =
    sym (length-take-le _ _ (long (goal.at.slice_bounds-filled-end-2 c).In_ok-listed))
