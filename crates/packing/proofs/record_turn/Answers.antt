use Rattle.std.proofs.Common.{◌+◌, refl, sym, ap, ◌∙◌, arith}
use Rattle.base.specs.Lists.{front}
use Rattle.payloader.proofs.Starts.{left_some}
use Rattle.train.specs.declared.TrainHead.{TrainHead}
use Rattle.turns.specs.Orders.{Told}
use Rattle.turns.specs.declared.Order.{Order}
use Rattle.turns.proofs.Turning.{asked}
use Rattle.packing.specs.declared.Wait.TheVariants as wait
use Rattle.packing.specs.declared.Place.{Place}
use Rattle.packing.specs.Pack.{next_number}
use Rattle.packing.specs.Steps.{after, left_told}
use Rattle.packing.proofs.Recording.{record_room_lem, ready_for, record_is, ready_whole}
use Rattle.packing.proofs.Turning.{gives}
use Rattle.packing.proofs.record_turn.Goals as goal

pub put_record-end-requires : goal.put_record-end-requires
put_record-end-requires c =
    record_room_lem c.requires.lent_packets (λ i. (c.type_inv.unit i).fits) c.requires.packet_lt_packets (ap (λ (h : TrainHead). h.width) c.head_for-train_head.ensures)

pub returns : goal.returns
returns c =
    let width = ap (λ (h : TrainHead). h.width) c.head_for-train_head.ensures in
    let a = c.args in
    let lent = c.requires.lent_packets in
    let more = c.requires.packet_lt_packets in
    let p : Place = record { wait = wait.Packets (after a.progress); count = a.place.count; mtu = a.place.mtu; number = next_number a.place.number } in
    let told = ap (left_told a.place a.progress) (left_some a.place.mtu a.unit.now a.progress.packet (omega (arith, lent.ready.packets_is, more))) in
    let put = record_is lent (λ i. (c.type_inv.unit i).fits) more width a.place.number _ _ c.put_record-end.ensures in (
      λ line. gives p refl (ap (λ (o : Order). o.read) c.ask.ensures) (asked p _ _ 0 told refl c.ask.ensures put.0 put.1 (omega arith)),
      put.2 ∙ ap (λ (t : Told Place). front t.written a.written.now) (sym told),
      ready_whole (ready_for (a.progress.packet + 1) lent.ready),
    )
