-- Every public call has no `requires`, and its contract leaves one outcome (K1, K2); so has what each program begins with.
use Rattle.settled.specs.Settled.{Settled, SettledBy, SamePart}
use Rattle.leb128.specs.contracts.read_leb128 as readLeb128
use Rattle.obu.specs.contracts.parse_obus as parseObus
use Rattle.obu.specs.contracts.same_list as same_list
use Rattle.packetizer.specs.contracts.plan_unit as plan_unit
use Rattle.packetizer.specs.contracts.same_plan as same_plan
use Rattle.aggregation.specs.contracts.get_aggregation_header as getAggregationHeader
use Rattle.aggregation.specs.contracts.header_of as header_of
use Rattle.payloader.specs.contracts.write_packet as write_packet
use Rattle.payloader.specs.contracts.write_packets as write_packets
use Rattle.element.specs.contracts.walk_elements as walkElements
use Rattle.element.specs.contracts.element as element
use Rattle.receiver.specs.contracts.receive as receive
use Rattle.train.specs.contracts.read_head as read_head
use Rattle.train.specs.contracts.head_for as head_for
use Rattle.train.specs.contracts.read_fields as readFields
use Rattle.train.specs.contracts.read_record as readRecord
use Rattle.train.specs.contracts.record_head as recordHead
use Rattle.packing.specs.contracts.start as packStart
use Rattle.unpacking.specs.contracts.start as unpackStart
use Rattle.listing.specs.contracts.start as planlistStart
use Rattle.settled.proofs.Calls as calls

pub read_leb128_lem : Settled readLeb128.ended (λ M 𝓤. readLeb128.clauses)
read_leb128_lem = calls.read_leb128_lem

pub parse_obus_lem : Settled parseObus.ended (λ M 𝓤. parseObus.clauses)
parse_obus_lem = calls.parse_obus_lem

pub same_list_lem : Settled same_list.ended (λ M 𝓤. same_list.clauses)
same_list_lem = calls.same_list_lem

pub plan_unit_lem : Settled plan_unit.ended (λ M 𝓤. plan_unit.clauses)
plan_unit_lem = calls.plan_unit_lem

pub same_plan_lem : Settled same_plan.ended (λ M 𝓤. same_plan.clauses)
same_plan_lem = calls.same_plan_lem

pub get_aggregation_header_lem : Settled getAggregationHeader.ended (λ M 𝓤. getAggregationHeader.clauses)
get_aggregation_header_lem = calls.get_aggregation_header_lem

pub header_of_lem : Settled header_of.ended (λ M 𝓤. header_of.clauses)
header_of_lem = calls.header_of_lem

pub write_packet_lem : Settled write_packet.ended (λ M 𝓤. write_packet.clauses)
write_packet_lem = calls.write_packet_lem

pub write_packets_lem : Settled write_packets.ended (λ M 𝓤. write_packets.clauses)
write_packets_lem = calls.write_packets_lem

pub walk_elements_lem : Settled walkElements.ended (λ M 𝓤. walkElements.clauses)
walk_elements_lem = calls.walk_elements_lem

pub element_of_lem : SettledBy element.ended (λ κs. SamePart) (λ M 𝓤. element.clauses)
element_of_lem = calls.element_of_lem

pub received : Settled receive.ended (λ M 𝓤. receive.clauses)
received = calls.received

pub read_head_lem : Settled read_head.ended (λ M 𝓤. read_head.clauses)
read_head_lem = calls.read_head_lem

pub head_for_lem : Settled head_for.ended (λ M 𝓤. head_for.clauses)
head_for_lem = calls.head_for_lem

pub read_fields_lem : Settled readFields.ended (λ M 𝓤. readFields.clauses)
read_fields_lem = calls.read_fields_lem

pub read_record_lem : Settled readRecord.ended (λ M 𝓤. readRecord.clauses)
read_record_lem = calls.read_record_lem

pub record_head_lem : Settled recordHead.ended (λ M 𝓤. recordHead.clauses)
record_head_lem = calls.record_head_lem

pub pack_start : Settled packStart.ended (λ M 𝓤. packStart.clauses)
pack_start = calls.pack_start

pub unpack_start : Settled unpackStart.ended (λ M 𝓤. unpackStart.clauses)
unpack_start = calls.unpack_start

pub planlist_start : Settled planlistStart.ended (λ M 𝓤. planlistStart.clauses)
planlist_start = calls.planlist_start
