use mathlib.Core.Path.{◌≡◌, sym, ap, ◌∙◌}
use Prim.Native.Nat.{ℕ, ◌-◌, ◌*◌, ◌≤◌}
use native.Mathlib.Omega.{arith}
use borrow.Author.Tests.{le-leb, lt-leb}
use mathlib.Core.List.{List}
use lib.ListN.{length, take, drop}
use lib.Seq.{length-take-le}
use Rattle.std.proofs.lemmas.Result.{err_from_is_err_and}
use Rattle.packetizer.specs.Records.{plan_numbers, packets_in}
use Rattle.packetizer.specs.Call.{sizes_of, unit_plan}
use Rattle.packetizer.specs.Laws.{planned_bytes}
use Rattle.packetizer.specs.declared.PacketMetadata.{PacketMetadata}
use Rattle.packetizer.proofs.Records.{packets_flat}
use Rattle.packetizer.proofs.Starts.{plan_abuts}
use Rattle.packetizer.proofs.Same.{Same, same_means}
use Rattle.payloader.specs.Call.{Inputs, to_write}
use Rattle.payloader.proofs.Runs.{run, run_length}
use Rattle.payloader.proofs.Calls.{outcome_refused, outcome_11, outcome_10, outcome_written}
use Rattle.payloader.proofs.write_packets.Goals.{In_ok-planned, Else-saturating_sub-count, After-run_bytes-bytes}
use Rattle.payloader.proofs.write_packets.Goals as goal

abbrev input : In_ok-planned → Inputs
input c = let a = c.args in to_write a.mtu a.unit.now a.obus.now a.plan.now a.out.now

-- the lists are the unit's and its plan's
known : (c : In_ok-planned) → Same c.args.mtu c.args.unit.now c.args.obus.now c.args.plan.now c.in_ok-planned.planned
known c = same_means c.in_ok-planned.ensures

packets_are : (c : In_ok-planned) → packets_in (take (c.in_ok-planned.planned.packets * plan_numbers) c.args.plan.now) ≡ unit_plan c.args.mtu c.args.unit.now
packets_are c = ap packets_in (known c).plan_same ∙ packets_flat (unit_plan c.args.mtu c.args.unit.now)

-- no packet is missing
enough : (c : Else-saturating_sub-count) → c.args.count ≤ c.in_ok-planned.planned.packets - c.args.first
enough c = omega (arith, c.if-saturating_sub-count.false)

there : (c : Else-saturating_sub-count) → c.args.count ≤ length (unit_plan c.args.mtu c.args.unit.now) - c.args.first
there c = omega (arith, enough c, (same_means c.in_ok-planned.ensures).plan_count)

bytes_are : (c : After-run_bytes-bytes) → c.run_bytes-bytes.result ≡ length (run c.args.mtu c.args.unit.now c.args.first c.args.count)
bytes_are c =
    let a = c.args in
    let k = same_means c.in_ok-planned.ensures in
    c.run_bytes-bytes.ensures
    ∙ ap (λ (l : List ℕ). planned_bytes (take a.count (drop a.first (packets_in l)))) k.plan_same
    ∙ ap (λ (ps : List PacketMetadata). planned_bytes (take a.count (drop a.first ps))) (packets_flat (unit_plan a.mtu a.unit.now))
    ∙ sym (run_length a.mtu a.unit.now k.unit_within (λ i. (c.shared_slice_known-1.given i).fits) a.count a.first (omega (arith, c.if-saturating_sub-count.false, k.plan_count)))

pub returns-in_err-planned : goal.returns-in_err-planned
returns-in_err-planned c =
    let a = c.args in
    let p = err_from_is_err_and c.from_residual.result c.from_residual.ensures.1 in
    rw (p.1, p.2) (outcome_refused _ _ (to_write a.mtu a.unit.now a.obus.now a.plan.now a.out.now) _ _ c.in_err-planned.ensures)

pub returns-then-saturating_sub-count : goal.returns-then-saturating_sub-count
returns-then-saturating_sub-count c =
    let s = (goal.at.returns-then-saturating_sub-count c).In_ok-planned in
    rw c.into.ensures (outcome_11 _ _ (input s) _ s.in_ok-planned.ensures (lt-leb _ _ (omega (arith, c.if-saturating_sub-count.true))))

pub overflow_mul-obus : goal.overflow_mul-obus
overflow_mul-obus c = omega (arith, (known (goal.at.overflow_mul-obus c).In_ok-planned).obus_long)

pub overflow_mul-plan : goal.overflow_mul-plan
overflow_mul-plan c = omega (arith, (known (goal.at.overflow_mul-plan c).In_ok-planned).plan_long)

pub slice_bounds-obus-end : goal.slice_bounds-obus-end
slice_bounds-obus-end c = sym (length-take-le _ _ (known (goal.at.slice_bounds-obus-end c).In_ok-planned).obus_long)

pub slice_bounds-plan-end : goal.slice_bounds-plan-end
slice_bounds-plan-end c = sym (length-take-le _ _ (known (goal.at.slice_bounds-plan-end c).In_ok-planned).plan_long)

pub run_bytes-bytes-requires : goal.run_bytes-bytes-requires
run_bytes-bytes-requires c =
    let a = c.args in
    let s = goal.at.run_bytes-bytes-requires c in
    rw (packets_are s.In_ok-planned) (record { there = there s.Else-saturating_sub-count; abut = plan_abuts a.mtu (sizes_of a.unit.now) })

pub returns-then-out-bytes : goal.returns-then-out-bytes
returns-then-out-bytes c =
    let s = goal.at.returns-then-out-bytes c in
    let t = s.In_ok-planned in
    rw c.into-then-out-bytes.ensures
    (outcome_10 _ _ (input t) _ t.in_ok-planned.ensures (le-leb _ _ (enough s.Else-saturating_sub-count)) _ (bytes_are s.After-run_bytes-bytes) c.if-out-bytes.true)

pub put_packets-requires : goal.put_packets-requires
put_packets-requires c =
    let s = goal.at.put_packets-requires c in
    let k = known s.In_ok-planned in
    record {
      lent = record { small = k.unit_within; obus_is = k.obus_same; plan_is = k.plan_same };
      fits = record { there = there s.Else-saturating_sub-count; room = rw (bytes_are s.After-run_bytes-bytes) at c.if-out-bytes.false };
    }

pub returns : goal.returns
returns c =
    let s = goal.at.returns c in
    let t = s.In_ok-planned in
    outcome_written _ _ (input t) _ t.in_ok-planned.ensures (le-leb _ _ (enough s.Else-saturating_sub-count)) _ (bytes_are s.After-run_bytes-bytes) c.if-out-bytes.false c.put_packets.ensures
