-- Each export of the static library is settled, by the same law. Assumes nothing.
use mathlib.Core.Path.{refl}
use Rattle.av1rtp.specs.contracts.av1rtp_size_field as size_field
use Rattle.av1rtp.specs.contracts.av1rtp_list as list
use Rattle.av1rtp.specs.contracts.av1rtp_plan as plan
use Rattle.av1rtp.specs.contracts.av1rtp_header as header
use Rattle.av1rtp.specs.contracts.av1rtp_write_packet as write_packet
use Rattle.av1rtp.specs.contracts.av1rtp_write_packets as write_packets
use Rattle.av1rtp.specs.contracts.av1rtp_element as element
use Rattle.av1rtp.specs.contracts.av1rtp_receive as receive
use Rattle.av1rtp.specs.contracts.av1rtp_train_head as trainHead
use Rattle.av1rtp.specs.contracts.av1rtp_train_record as trainRecord
use Rattle.av1rtp.specs.contracts.av1rtp_train_record_head as recordHead
use Rattle.settled.specs.Settled.{Settled}
use Rattle.settled.proofs.Law.{meet, settles}

pub size_field_lem : Settled size_field.ended (λ M 𝓤. size_field.clauses)
size_field_lem =
    settles size_field.ended _ _ _ (λ M 𝓤 𝓛 mem run κs a. refl) (λ κs a x y p q. (
      meet p.0 q.0,
      λ i. (tt, (meet p.1 q.1 i, tt)),
    ))

pub list_obus : Settled list.ended (λ M 𝓤. list.clauses)
list_obus =
    settles list.ended _ _ _ (λ M 𝓤 𝓛 mem run κs a. refl) (λ κs a x y p q. (
      meet p.0 q.0,
      λ i. (tt, (meet p.2 q.2 i, (meet p.1 q.1 i, tt))),
    ))

pub plan_unit_lem : Settled plan.ended (λ M 𝓤. plan.clauses)
plan_unit_lem =
    settles plan.ended _ _ _ (λ M 𝓤 𝓛 mem run κs a. refl) (λ κs a x y p q. (
      meet p.number q.number,
      λ i. (tt, (tt, (meet p.obus_are q.obus_are i, (meet p.plan_is q.plan_is i, (meet p.words_are q.words_are i, tt))))),
    ))

pub header_of_lem : Settled header.ended (λ M 𝓤. header.clauses)
header_of_lem =
    settles header.ended _ _ _ (λ M 𝓤 𝓛 mem run κs a. refl) (λ κs a x y p q. (
      meet p.0 q.0,
      λ i. (tt, (tt, (tt, (tt, (meet p.1 q.1 i, tt))))),
    ))

pub write_packet_lem : Settled write_packet.ended (λ M 𝓤. write_packet.clauses)
write_packet_lem =
    settles write_packet.ended _ _ _ (λ M 𝓤 𝓛 mem run κs a. refl) (λ κs a x y p q. (
      meet p.number q.number,
      λ i. (tt, (tt, (tt, (tt, (tt, (meet p.out_is q.out_is i, (meet p.words_are q.words_are i, tt))))))),
    ))

pub write_packets_lem : Settled write_packets.ended (λ M 𝓤. write_packets.clauses)
write_packets_lem =
    settles write_packets.ended _ _ _ (λ M 𝓤 𝓛 mem run κs a. refl) (λ κs a x y p q. (
      meet p.number q.number,
      λ i. (tt, (tt, (tt, (tt, (tt, (tt, (meet p.out_is q.out_is i, (meet p.words_are q.words_are i, tt)))))))),
    ))

pub element_of_lem : Settled element.ended (λ M 𝓤. element.clauses)
element_of_lem =
    settles element.ended _ _ _ (λ M 𝓤 𝓛 mem run κs a. refl) (λ κs a x y p q. (
      meet p.0 q.0,
      λ i. (tt, (tt, (meet p.1 q.1 i, tt))),
    ))

pub received : Settled receive.ended (λ M 𝓤. receive.clauses)
received =
    settles receive.ended _ _ _ (λ M 𝓤 𝓛 mem run κs a. refl) (λ κs a x y p q. (
      meet p.number_is q.number_is,
      λ i. (meet p.state_is q.state_is i, (tt, (tt, (meet p.store_is q.store_is i, (meet p.output_is q.output_is i, (meet p.answer_is q.answer_is i, tt)))))),
    ))

pub train_head : Settled trainHead.ended (λ M 𝓤. trainHead.clauses)
train_head =
    settles trainHead.ended _ _ _ (λ M 𝓤 𝓛 mem run κs a. refl) (λ κs a x y p q. (
      meet p.0 q.0,
      λ i. (tt, (meet p.1 q.1 i, tt)),
    ))

pub train_record : Settled trainRecord.ended (λ M 𝓤. trainRecord.clauses)
train_record =
    settles trainRecord.ended _ _ _ (λ M 𝓤 𝓛 mem run κs a. refl) (λ κs a x y p q. (
      meet p.0 q.0,
      λ i. (tt, (tt, (tt, (meet p.1 q.1 i, tt)))),
    ))

pub record_head_lem : Settled recordHead.ended (λ M 𝓤. recordHead.clauses)
record_head_lem =
    settles recordHead.ended _ _ _ (λ M 𝓤 𝓛 mem run κs a. refl) (λ κs a x y p q. (refl, λ i. (tt, (tt, (tt, (meet p q i, tt))))))
