use mathlib.Core.Path.{ap, ◌∙◌}
use Prim.Native.Nat.{◌+◌, ◌≤◌}
use native.Mathlib.Omega.{arith}
use lib.ListN.{length}
use Rattle.obu.specs.Records.{obus_in}
use Rattle.obu.proofs.Records.{obus_count}
use Rattle.packetizer.specs.Records.{packets_in}
use Rattle.packetizer.proofs.Records.{packets_count}
use Rattle.aggregation.specs.Header.{lacking}
use Rattle.aggregation.proofs.Calls.{given_whole, whole_there}
use Rattle.aggregation.proofs.header_byte.Goals.{After-packet_at-p}
use Rattle.aggregation.proofs.header_byte.Goals as goal

-- the record has elements, and their OBUs are in the list
elements : (c : After-packet_at-p)
    → (1 ≤ c.packet_at-p.result.num_obu_elements)
    × (c.packet_at-p.result.first_obu_index + c.packet_at-p.result.num_obu_elements ≤ length (obus_in c.args.obus.now))
elements c =
    let obus = obus_in c.args.obus.now in
    let whole = given_whole c.requires.0 obus (packets_in c.args.plan.now) c.args.k c.requires.1 in
    whole_there (length obus) c.packet_at-p.result (ap (lacking (length obus)) c.packet_at-p.ensures ∙ whole.lacks_nothing)

pub packet_at-p-requires : goal.packet_at-p-requires
packet_at-p-requires c =
    let whole = given_whole c.requires.0 (obus_in c.args.obus.now) (packets_in c.args.plan.now) c.args.k c.requires.1 in
    omega (arith, whole.there, packets_count c.args.plan.now)

pub overflow_sub-end : goal.overflow_sub-end
overflow_sub-end c = omega (arith, elements (goal.at.overflow_sub-end c).After-packet_at-p)

pub obu_at-last-requires : goal.obu_at-last-requires
obu_at-last-requires c = omega (arith, elements (goal.at.obu_at-last-requires c).After-packet_at-p, obus_count c.args.obus.now)
