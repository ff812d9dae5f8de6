use mathlib.Core.Path.{◌≡◌, refl, sym, ap, ◌∙◌}
use native.Mathlib.Omega.{arith}
use Rattle.packetizer.specs.Plan.{new_packet, start_after}
use Rattle.packetizer.specs.declared.PacketMetadata.{PacketMetadata}
use Rattle.packetizer.proofs.Steps.{charge_none}
use Rattle.packetizer.proofs.Starts.{insert_lined}
use Rattle.packetizer.proofs.Placing.{place_new, place_on, one_more, closing_room, closing_near, closing_asks, closing_stored}
use Rattle.packetizer.proofs.place_obu.Goals.{After-new_packet}
use Rattle.packetizer.proofs.place_obu.Goals as goal

-- the new packet
new : (g : _) (c : After-new_packet g) → c.new_packet.result ≡ new_packet c.args.i (start_after c.args.f.packet)
new g c = c.new_packet.ensures ∙ ap (new_packet c.args.i) c.start_after-start.ensures

pub put-requires : goal.put-requires
put-requires g c = let a = c.args in
    closing_room (place_new a.room a.i a.size a.f.packet _ refl (sym c.if-is_full.ensures)) c.requires.closable

pub start_after-start-requires : goal.start_after-start-requires
start_after-start-requires g c = let a = c.args in
    closing_near (place_new a.room a.i a.size a.f.packet _ refl (sym c.if-is_full.ensures)) c.requires.closable
    (insert_lined a.room a.i a.size (new_packet a.i (start_after a.f.packet)))

pub insert_obu-requires : goal.insert_obu-requires
insert_obu-requires g c = let a = c.args in
    let e = new g (goal.at.insert_obu-requires g c).After-new_packet in
    let v = c.requires.placeable in
    let size : c.new_packet.result.packet_size ≡ 0 = ap (λ (p : PacketMetadata). p.packet_size) e in
    let none : c.new_packet.result.num_obu_elements ≡ 0 = ap (λ (p : PacketMetadata). p.num_obu_elements) e in
    record {
      placeable = record {
        large = v.large;
        most = v.most;
        some = v.some;
        small = v.small;
        few = omega (arith, none, size);
        fits = omega (arith, size);
      };
      charged = omega (arith, v.large, size, charge_none c.new_packet.result none);
      closable = closing_asks (place_new a.room a.i a.size a.f.packet _ e (sym c.if-is_full.ensures)) c.requires.closable _ c.put.auto.plan;
    }

pub returns-then-is_full : goal.returns-then-is_full
returns-then-is_full g c = let a = c.args in
    let e = new g (goal.at.returns-then-is_full g c).After-new_packet in
    closing_stored (place_new a.room a.i a.size a.f.packet _ e (sym c.if-is_full.ensures)) c.put.ensures c.insert_obu.ensures

pub insert_obu-requires-2 : goal.insert_obu-requires-2
insert_obu-requires-2 g c = let a = c.args in
    record {
      placeable = c.requires.placeable;
      charged = omega (arith, c.requires.placeable, one_more a.room a.f.packet (sym c.if-is_full.ensures));
      closable = rw (place_on a.room a.i a.size a.f.packet (sym c.if-is_full.ensures)) at c.requires.closable;
    }

pub returns : goal.returns
returns g c = let a = c.args in
    rw (place_on a.room a.i a.size a.f.packet (sym c.if-is_full.ensures)) c.insert_obu-2.ensures
