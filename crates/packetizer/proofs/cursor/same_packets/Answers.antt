use mathlib.Core.Path.{sym, ◌∙◌}
use native.Mathlib.Omega.{arith}
use Rattle.obu.specs.Records.{obus_in}
use Rattle.obu.proofs.Records.{obus_count}
use Rattle.packetizer.specs.Plan.{plan_of}
use Rattle.packetizer.specs.Call.{sizes}
use Rattle.packetizer.proofs.Turns.{sizes_count}
use Rattle.packetizer.proofs.Comparing.{low_same, passed_first, walkable, passed_few, passed_near, passed_next, passed_other, passed_end, compared_same, compared_other}
use Rattle.packetizer.proofs.cursor.same_packets.Goals as goal

pub returns-then-mtu-lt-LEAST_MTU : goal.returns-then-mtu-lt-LEAST_MTU
returns-then-mtu-lt-LEAST_MTU c =
    compared_same _ c.args.plan.now (sym (obus_count c.args.obus.now)) (low_same (sizes (obus_in c.args.obus.now)) c.args.plan.now c.if-mtu-lt-LEAST_MTU.true)

pub loop-obu-init : goal.loop-obu-init
loop-obu-init c = passed_first c.if-mtu-lt-LEAST_MTU.false

pub next_packet-next-requires : goal.next_packet-next-requires
next_packet-next-requires c = record {
  walkable = walkable c.if-mtu-lt-LEAST_MTU.false c.requires;
  inside = omega (arith, c.loop-obu-test.true, sizes_count c.args.obus.now);
  starts = c.loop-obu.invariant.starts;
}

pub same_record-requires : goal.same_record-requires
same_record-requires c =
    omega (arith, passed_few c.loop-obu.invariant c.next_packet-next.ensures c.if-mtu-lt-LEAST_MTU.false c.requires)

pub start_after-start-requires : goal.start_after-start-requires
start_after-start-requires c = passed_near c.loop-obu.invariant c.next_packet-next.ensures c.if-mtu-lt-LEAST_MTU.false c.requires

pub overflow_add-n : goal.overflow_add-n
overflow_add-n c =
    omega (arith, passed_few c.loop-obu.invariant c.next_packet-next.ensures c.if-mtu-lt-LEAST_MTU.false c.requires)

pub loop-obu-preserved : goal.loop-obu-preserved
loop-obu-preserved c = rw c.start_after-start.ensures (passed_next c.loop-obu.invariant c.next_packet-next.ensures (sym c.same_record.ensures ∙ c.if-not-same_record.false))

pub returns-then-not-same_record : goal.returns-then-not-same_record
returns-then-not-same_record c =
    rw c.into.ensures (compared_other (plan_of c.args.mtu (sizes (obus_in c.args.obus.now))) c.args.plan.now _
    (passed_other c.loop-obu.invariant c.next_packet-next.ensures (sym c.same_record.ensures ∙ c.if-not-same_record.true)))

pub returns : goal.returns
returns c =
    compared_same (plan_of c.args.mtu (sizes (obus_in c.args.obus.now))) c.args.plan.now (sym (obus_count c.args.obus.now))
    (passed_end c.loop-obu.invariant (omega (arith, c.loop-obu-test.false, sizes_count c.args.obus.now)))
