-- Every export of the static library has no `requires`, and its contract leaves one outcome (K1, K2).
use Rattle.settled.specs.Settled.{Settled}
use Rattle.av1rtp.specs.contracts.av1rtp_size_field as size_field
use Rattle.av1rtp.specs.contracts.av1rtp_list as list
use Rattle.av1rtp.specs.contracts.av1rtp_plan as plan
use Rattle.av1rtp.specs.contracts.av1rtp_header as header
use Rattle.av1rtp.specs.contracts.av1rtp_write_packet as write_packet
use Rattle.av1rtp.specs.contracts.av1rtp_write_packets as write_packets
use Rattle.av1rtp.specs.contracts.av1rtp_element as element
use Rattle.av1rtp.specs.contracts.av1rtp_receive as receive
use Rattle.av1rtp.specs.contracts.av1rtp_train_head as trainHead
use Rattle.av1rtp.specs.contracts.av1rtp_train_record as trainRecord
use Rattle.av1rtp.specs.contracts.av1rtp_train_record_head as recordHead
use Rattle.settled.proofs.Exports as exports

pub size_field_lem : Settled size_field.ended (λ M 𝓤. size_field.clauses)
size_field_lem = exports.size_field_lem

pub list_obus : Settled list.ended (λ M 𝓤. list.clauses)
list_obus = exports.list_obus

pub plan_unit_lem : Settled plan.ended (λ M 𝓤. plan.clauses)
plan_unit_lem = exports.plan_unit_lem

pub header_of_lem : Settled header.ended (λ M 𝓤. header.clauses)
header_of_lem = exports.header_of_lem

pub write_packet_lem : Settled write_packet.ended (λ M 𝓤. write_packet.clauses)
write_packet_lem = exports.write_packet_lem

pub write_packets_lem : Settled write_packets.ended (λ M 𝓤. write_packets.clauses)
write_packets_lem = exports.write_packets_lem

pub element_of_lem : Settled element.ended (λ M 𝓤. element.clauses)
element_of_lem = exports.element_of_lem

pub received : Settled receive.ended (λ M 𝓤. receive.clauses)
received = exports.received

pub train_head : Settled trainHead.ended (λ M 𝓤. trainHead.clauses)
train_head = exports.train_head

pub train_record : Settled trainRecord.ended (λ M 𝓤. trainRecord.clauses)
train_record = exports.train_record

pub record_head_lem : Settled recordHead.ended (λ M 𝓤. recordHead.clauses)
record_head_lem = exports.record_head_lem
