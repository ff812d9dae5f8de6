use Rattle.std.proofs.Common.{ℕ, ◌&&◌, eqb, List, length, ap, ◌∙◌, subst, arith}
use lib.Seq.{length-sets}
use Rattle.obu.specs.declared.Obu.{Obu}
use Rattle.packetizer.specs.Call.{unit_plan}
use Rattle.packetizer.proofs.Records.{plan_length}
use Rattle.aggregation.specs.New.{new_sequence}
use Rattle.aggregation.specs.Header.{any_outside}
use Rattle.payloader.specs.Payload.{payload_at}
use Rattle.payloader.proofs.Packets.{none_outside}
use Rattle.train.specs.Laws.{Writable}
use Rattle.train.proofs.Fields.{fields_length}
use Rattle.packing.proofs.Recording.{obus_said, size_said, record_put}
use Rattle.packing.proofs.unit.put_record.Goals as goal

pub packet_at-requires : goal.packet_at-requires
packet_at-requires c = omega (arith, ap length c.requires.lent.plan_is, plan_length (unit_plan c.args.mtu c.args.unit.now), c.requires.there)

pub put_record_head-body-requires : goal.put_record_head-body-requires
put_record_head-body-requires c =
    let r = c.requires in
    subst (λ (size : ℕ). Writable c.args.written.now 0 c.args.width size) (size_said r.lent (λ i. (c.type_inv.unit i).fits) c.args.k r.there c.packet_at.ensures) r.writable

pub new_at-new-requires : goal.new_at-new-requires
new_at-new-requires c = ap (any_outside c.args.unit.now) (obus_said c.requires.lent (λ i. (c.type_inv.unit i).fits)) ∙ none_outside c.args.unit.now

pub put_packet-requires : goal.put_packet-requires
put_packet-requires c =
    let a = c.args in
    let r = c.requires in
    let head = c.put_record_head-body.ensures in record {
      lent = r.lent;
      writable = record {
        there = r.there;
        new_is = c.new_at-new.ensures ∙ ap (λ (os : List Obu). eqb a.k 0 && new_sequence a.unit.now os) (obus_said r.lent (λ i. (c.type_inv.unit i).fits));
        room = omega (arith, r.room, simp fields_length at head.cursor, simp length-sets at (ap length head.stored));
      };
    }

pub returns : goal.returns
returns c =
    let a = c.args in
    let put = c.put_packet.ensures in
    record_put a.width a.number (payload_at a.mtu a.unit.now a.k) (size_said c.requires.lent (λ i. (c.type_inv.unit i).fits) a.k c.requires.there c.packet_at.ensures) c.put_record_head-body.ensures (record { cursor = put.0; stored = put.1 })
