use mathlib.Core.Path.{◌≡◌, sym, ap, ◌∙◌}
use Prim.Native.Nat.{◌+◌}
use native.Mathlib.Omega.{arith}
use Rattle.packetizer.specs.Plan.{charge_of, closing_then, spread, start_after, insert}
use Rattle.packetizer.specs.declared.PacketMetadata.{PacketMetadata}
use Rattle.packetizer.proofs.Starts.{spread_lined}
use Rattle.packetizer.proofs.Placing.{insert_whole, insert_cut, fragment_below, filling_stored, closing_room, closing_near, closing_asks, closing_stored}
use Rattle.packetizer.proofs.insert_obu.Goals.{After-cut_at-cut}
use Rattle.packetizer.proofs.insert_obu.Goals as goal

-- what the OBU closes, where it is cut
cut : (g : _) (c : After-cut_at-cut g) → let a = c.args in
    insert a.room a.i a.size a.f.packet ≡ closing_then c.cut_at-cut.result (spread a.size a.room a.i a.size c.first_fragment_size-n.result)
cut g c = let a = c.args in
    insert_cut a.room a.i a.size a.f.packet c.charge-q.result c.first_fragment_size-n.result c.charge-q.ensures c.first_fragment_size-n.ensures (omega (arith, c.required_bytes-need.ensures, c.if-need-room.false))
    ∙ ap (λ (q : PacketMetadata). closing_then q (spread a.size a.room a.i a.size c.first_fragment_size-n.result)) (sym c.cut_at-cut.ensures)

pub returns-then-need-room : goal.returns-then-need-room
returns-then-need-room g c = let a = c.args in
    rw c.with_element.ensures
    (filling_stored (insert_whole a.room a.i a.size a.f.packet c.charge-q.result c.charge-q.ensures
    (omega (arith, c.required_bytes-need.ensures, c.if-need-room.true))))

pub cut_at-cut-requires : goal.cut_at-cut-requires
cut_at-cut-requires g c =
    let told : (c.charge-q.result.packet_size ≡ c.args.f.packet.packet_size + charge_of c.args.f.packet) × (c.charge-q.result.num_obu_elements ≡ c.args.f.packet.num_obu_elements) = (ap (λ (q : PacketMetadata). q.packet_size) c.charge-q.ensures, ap (λ (q : PacketMetadata). q.num_obu_elements) c.charge-q.ensures) in
    let a = c.args in
    omega (arith, told, c.requires.placeable, c.requires.charged, c.first_fragment_size-n.ensures, fragment_below a.room c.charge-q.result a.size)

pub put-requires : goal.put-requires
put-requires g c = closing_room (cut g (goal.at.put-requires g c).After-cut_at-cut) c.requires.closable

pub start_after-start-requires : goal.start_after-start-requires
start_after-start-requires g c = let a = c.args in
    closing_near (cut g (goal.at.start_after-start-requires g c).After-cut_at-cut) c.requires.closable
    (spread_lined a.size a.room a.i a.size c.first_fragment_size-n.result (start_after c.cut_at-cut.result))

pub spread_obu-requires : goal.spread_obu-requires
spread_obu-requires g c = let a = c.args in
    record {
      some = c.requires.placeable.large;
      inside = omega (arith, c.requires.placeable, c.first_fragment_size-n.ensures, fragment_below a.room c.charge-q.result a.size);
      small = c.requires.placeable.small;
      closable = rw c.start_after-start.ensures (closing_asks (cut g (goal.at.spread_obu-requires g c).After-cut_at-cut) c.requires.closable _ c.put.auto.plan);
    }

pub returns : goal.returns
returns g c =
    closing_stored (cut g (goal.at.returns g c).After-cut_at-cut) c.put.ensures (rw c.start_after-start.ensures at c.spread_obu.ensures)
