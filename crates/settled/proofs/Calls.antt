-- Each public call is settled, by one law: its contract says one fact, and the fact leaves one outcome. Assumes nothing.
use mathlib.Core.Path.{◌≡◌, refl, sym, ap, ap₂, ◌∙◌}
use Prim.Native.Nat.{ℕ}
use mathlib.Core.List.{List}
use Rattle.std.specs.Prelude.{Result}
use Rattle.base.specs.Answers.{Answer, paper}
use Rattle.base.specs.declared.Refusal.{Refusal}
use Rattle.obu.specs.Records.{flat, obus_in}
use Rattle.obu.specs.declared.Obu.{Obu}
use Rattle.packetizer.specs.Call as plan
use Rattle.packetizer.specs.Records.{flat_plan, packets_in}
use Rattle.packetizer.specs.declared.PacketMetadata.{PacketMetadata}
use Rattle.aggregation.specs.Header.{header_of}
use Rattle.aggregation.proofs.Headers.{alike}
use Rattle.payloader.specs.Call as written
use Rattle.leb128.specs.contracts.read_leb128 as readLeb128
use Rattle.obu.specs.contracts.parse_obus as parseObus
use Rattle.obu.specs.contracts.same_list as same_list
use Rattle.packetizer.specs.contracts.plan_unit as plan_unit
use Rattle.packetizer.specs.contracts.same_plan as same_plan
use Rattle.aggregation.specs.contracts.get_aggregation_header as getAggregationHeader
use Rattle.aggregation.specs.contracts.header_of as header_of
use Rattle.payloader.specs.contracts.write_packet as write_packet
use Rattle.payloader.specs.contracts.write_packets as write_packets
use Rattle.element.specs.contracts.walk_elements as walkElements
use Rattle.element.specs.contracts.element as element
use Rattle.receiver.specs.Call.{After}
use Rattle.receiver.specs.declared.Received.{Received}
use Rattle.receiver.specs.contracts.receive as receive
use Rattle.train.specs.contracts.read_head as read_head
use Rattle.train.specs.contracts.head_for as head_for
use Rattle.train.specs.contracts.read_fields as readFields
use Rattle.train.specs.contracts.read_record as readRecord
use Rattle.train.specs.contracts.record_head as recordHead
use Rattle.turns.specs.declared.Order.{Order}
use Rattle.packing.specs.declared.Place as pack
use Rattle.packing.specs.contracts.start as packStart
use Rattle.unpacking.specs.declared.Place as unpack
use Rattle.listing.specs.declared.Place as planlist
use Rattle.listing.specs.contracts.start as planlistStart
use Rattle.unpacking.specs.contracts.start as unpackStart
use Rattle.settled.specs.Settled.{Settled, SettledBy, SamePart}
use Rattle.settled.proofs.Law.{meet, settles}
use Rattle.settled.proofs.Answers.{answer_one, placed_one, fields_one, found_one}

pub read_leb128_lem : Settled readLeb128.ended (λ M 𝓤. readLeb128.clauses)
read_leb128_lem =
    settles readLeb128.ended _ _ _ (λ M 𝓤 𝓛 mem run κs a. refl) (λ κs a x y p q. (answer_one _ _ (meet p q), refl))

pub parse_obus_lem : Settled parseObus.ended (λ M 𝓤. parseObus.clauses)
parse_obus_lem =
    settles parseObus.ended _ _ _ (λ M 𝓤 𝓛 mem run κs a. refl) (λ κs a x y p q. (
      placed_one _ _ (meet p.0 q.0),
      λ i. (tt, (meet p.1 q.1 i, tt)),
    ))

pub same_list_lem : Settled same_list.ended (λ M 𝓤. same_list.clauses)
same_list_lem = settles same_list.ended _ _ _ (λ M 𝓤 𝓛 mem run κs a. refl) (λ κs a x y p q. (placed_one _ _ (meet p q), refl))

pub plan_unit_lem : Settled plan_unit.ended (λ M 𝓤. plan_unit.clauses)
plan_unit_lem =
    settles plan_unit.ended _ _ _ (λ M 𝓤 𝓛 mem run κs a. refl) (λ κs a x y p q. (
      placed_one _ _ (ap (λ (o : plan.After). o.answer) (meet p q)),
      λ i. (tt, (tt, (ap (λ (o : plan.After). o.obus) (meet p q) i, (ap (λ (o : plan.After). o.plan) (meet p q) i, tt)))),
    ))

pub same_plan_lem : Settled same_plan.ended (λ M 𝓤. same_plan.clauses)
same_plan_lem = settles same_plan.ended _ _ _ (λ M 𝓤 𝓛 mem run κs a. refl) (λ κs a x y p q. (placed_one _ _ (meet p q), refl))

pub get_aggregation_header_lem : Settled getAggregationHeader.ended (λ M 𝓤. getAggregationHeader.clauses)
get_aggregation_header_lem =
    settles getAggregationHeader.ended _ _ _ (λ M 𝓤 𝓛 mem run κs a. refl) (λ κs a x y p q. (answer_one _ _ (meet p q), refl))

pub header_of_lem : Settled header_of.ended (λ M 𝓤. header_of.clauses)
header_of_lem =
    settles header_of.ended _ _ _ (λ M 𝓤 𝓛 mem run κs a. refl) (λ κs a x y p q. (answer_one _ _ (meet p q), refl))

pub write_packet_lem : Settled write_packet.ended (λ M 𝓤. write_packet.clauses)
write_packet_lem =
    settles write_packet.ended _ _ _ (λ M 𝓤 𝓛 mem run κs a. refl) (λ κs a x y p q. (
      placed_one _ _ (ap (λ (o : written.After). o.answer) (meet p q)),
      λ i. (tt, (tt, (tt, (tt, (tt, (ap (λ (o : written.After). o.out) (meet p q) i, tt)))))),
    ))

pub write_packets_lem : Settled write_packets.ended (λ M 𝓤. write_packets.clauses)
write_packets_lem =
    settles write_packets.ended _ _ _ (λ M 𝓤 𝓛 mem run κs a. refl) (λ κs a x y p q. (
      placed_one _ _ (ap (λ (o : written.After). o.answer) (meet p q)),
      λ i. (tt, (tt, (tt, (tt, (tt, (tt, (ap (λ (o : written.After). o.out) (meet p q) i, tt))))))),
    ))

-- the header call in its two forms: the same records, the same answer
pub same_header : (a b : Result ℕ Refusal) (unit : List ℕ) (os : List Obu) (ps : List PacketMetadata) (k : ℕ)
    → paper a ≡ header_of unit (obus_in (flat os)) (packets_in (flat_plan ps)) k → paper b ≡ header_of unit os ps k → a ≡ b
same_header a b unit os ps k e f = answer_one a b (e ∙ alike unit os ps k ∙ sym f)

pub walk_elements_lem : Settled walkElements.ended (λ M 𝓤. walkElements.clauses)
walk_elements_lem =
    settles walkElements.ended _ _ _ (λ M 𝓤 𝓛 mem run κs a. refl) (λ κs a x y p q. (placed_one _ _ (meet p q), refl))

-- bytes at a place
pub element_of_lem : SettledBy element.ended (λ κs. SamePart) (λ M 𝓤. element.clauses)
element_of_lem =
    settles element.ended _ _ _ (λ M 𝓤 𝓛 mem run κs a. refl) (λ κs a x y p q. ((meet p.0 q.0, meet p.1 q.1), refl))

pub received : Settled receive.ended (λ M 𝓤. receive.clauses)
received =
    settles receive.ended _ _ _ (λ M 𝓤 𝓛 mem run κs a. refl) (λ κs a x y p q. (
      answer_one _ _ (ap (λ (o : After (Answer Received)). o.answer) (meet p q)),
      λ i. (tt, (tt, (tt, (ap (λ (o : After (Answer Received)). o.store) (meet p q) i, (ap (λ (o : After (Answer Received)). o.output) (meet p q) i, tt))))),
    ))

-- ---- trains

pub read_head_lem : Settled read_head.ended (λ M 𝓤. read_head.clauses)
read_head_lem = settles read_head.ended _ _ _ (λ M 𝓤 𝓛 mem run κs a. refl) (λ κs a x y p q. (answer_one _ _ (meet p q), refl))

pub head_for_lem : Settled head_for.ended (λ M 𝓤. head_for.clauses)
head_for_lem = settles head_for.ended _ _ _ (λ M 𝓤 𝓛 mem run κs a. refl) (λ κs a x y p q. (meet p q, refl))

pub read_fields_lem : Settled readFields.ended (λ M 𝓤. readFields.clauses)
read_fields_lem =
    settles readFields.ended _ _ _ (λ M 𝓤 𝓛 mem run κs a. refl) (λ κs a x y p q. (fields_one _ _ (meet p q), refl))

pub read_record_lem : Settled readRecord.ended (λ M 𝓤. readRecord.clauses)
read_record_lem =
    settles readRecord.ended _ _ _ (λ M 𝓤 𝓛 mem run κs a. refl) (λ κs a x y p q. (found_one _ _ (meet p q), refl))

pub record_head_lem : Settled recordHead.ended (λ M 𝓤. recordHead.clauses)
record_head_lem =
    settles recordHead.ended _ _ _ (λ M 𝓤 𝓛 mem run κs a. refl) (λ κs a x y p q. (refl, λ i. (tt, (tt, (tt, (meet p q i, tt))))))

-- ---- what each program begins with

pub pack_start : Settled packStart.ended (λ M 𝓤. packStart.clauses)
pack_start =
    settles packStart.ended _ _ _ (λ M 𝓤 𝓛 mem run κs a. refl) (λ κs a x y p q. (
      ap₂ (λ (w : pack.Place) (o : Order). record { place = w; order = o }) (meet p.turned.0.place_is q.turned.0.place_is) (meet p.turned.0.order_is q.turned.0.order_is),
      refl,
    ))

pub unpack_start : Settled unpackStart.ended (λ M 𝓤. unpackStart.clauses)
unpack_start =
    settles unpackStart.ended _ _ _ (λ M 𝓤 𝓛 mem run κs a. refl) (λ κs a x y p q. (
      ap₂ (λ (w : unpack.Place) (o : Order). record { place = w; order = o }) (meet p.turned.0.place_is q.turned.0.place_is) (meet p.turned.0.order_is q.turned.0.order_is),
      refl,
    ))

pub planlist_start : Settled planlistStart.ended (λ M 𝓤. planlistStart.clauses)
planlist_start =
    settles planlistStart.ended _ _ _ (λ M 𝓤 𝓛 mem run κs a. refl) (λ κs a x y p q. (
      ap₂ (λ (w : planlist.Place) (o : Order). record { place = w; order = o }) (meet p.0.0.place_is q.0.0.place_is) (meet p.0.0.order_is q.0.0.order_is),
      refl,
    ))
