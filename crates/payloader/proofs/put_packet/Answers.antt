use mathlib.Core.Path.{◌≡◌, refl, sym, ap, ap₂, subst, ◌∙◌}
use Prim.Native.Nat.{ℕ, ◌+◌, ◌-◌, ◌<◌}
use native.Mathlib.Omega.{arith}
use mathlib.Core.List.{List}
use mathlib.Core.Bool.{◌&&◌}
use lib.ListN.{length, get_or}
use lib.Dec.{eqb}
use Rattle.obu.specs.Records.{no_obu}
use Rattle.obu.specs.Unit.{obus_of}
use Rattle.obu.specs.Laws.{Lies}
use Rattle.obu.specs.declared.Obu.{Obu}
use Rattle.obu.proofs.Records.{obu_lies}
use Rattle.packetizer.specs.Records.{no_packet}
use Rattle.packetizer.specs.Call.{unit_plan}
use Rattle.packetizer.specs.declared.PacketMetadata.{PacketMetadata}
use Rattle.packetizer.proofs.Records.{plan_length}
use Rattle.aggregation.specs.New.{new_sequence}
use Rattle.aggregation.specs.Header.{byte_of}
use Rattle.payloader.proofs.Bodies.{writing_room, writing_next, last_fits, writing_last}
use Rattle.payloader.proofs.Packets.{lent_long, lent_obus, lent_obu, lent_packet, writing_lies, packet_sound, packet_headed, payload_is, writing_first, packet_written}
use Rattle.payloader.proofs.put_packet.Goals.{After-packet_at-p, After-header_byte, After-obu_at-o, After-obu_at-o-2}
use Rattle.payloader.proofs.put_packet.Goals as goal

is_packet : (c : After-packet_at-p) → c.packet_at-p.result ≡ get_or (unit_plan c.args.mtu c.args.unit.now) c.args.k no_packet
is_packet c = lent_packet (λ i. (c.shared_slice_known-1.given i).fits) c.requires.lent c.args.k c.packet_at-p.ensures

some : (c : After-packet_at-p) → 0 < c.packet_at-p.result.num_obu_elements
some c =
    let a = c.args in
    omega (arith, ap (λ (p : PacketMetadata). p.num_obu_elements) (is_packet c), (packet_sound a.mtu a.unit.now a.k c.requires.lent.small c.requires.writable.there).some)

is_header : (c : After-header_byte)
    → c.header_byte.result ≡ byte_of c.args.unit.now (obus_of c.args.unit.now) (get_or (unit_plan c.args.mtu c.args.unit.now) c.args.k no_packet) c.args.k
is_header c =
    let a = c.args in
    let are_obus = lent_obus (λ i. (c.shared_slice_known-1.given i).fits) c.requires.lent in
    c.header_byte.ensures a.unit.now (c.requires.writable.new_is ∙ ap (λ (os : List Obu). eqb a.k 0 && new_sequence a.unit.now os) (sym are_obus))
    ∙ ap₂ (λ (os : List Obu) (p : PacketMetadata). byte_of a.unit.now os p a.k) are_obus
    (lent_packet (λ i. (c.shared_slice_known-1.given i).fits) c.requires.lent a.k refl)

is_obu : (c : After-obu_at-o) → c.obu_at-o.result ≡ get_or (obus_of c.args.unit.now) c.loop-i.i no_obu
is_obu c = lent_obu (λ i. (c.shared_slice_known-1.given i).fits) c.requires.lent c.loop-i.i c.obu_at-o.ensures

lies : (c : After-obu_at-o) → Lies c.args.unit.now (get_or (obus_of c.args.unit.now) c.loop-i.i no_obu)
lies c = writing_lies (λ i. (c.shared_slice_known-1.given i).fits) c.loop-i.invariant

-- the loop ends at the last element
is_last : (c : After-obu_at-o-2) → c.obu_at-o-2.result ≡ get_or (obus_of c.args.unit.now) c.loop-i.i no_obu
is_last c =
    let e : c.packet_at-p.result.first_obu_index + c.packet_at-p.result.num_obu_elements - 1 ≡ c.loop-i.i = omega arith in
    lent_obu (λ i. (c.shared_slice_known-1.given i).fits) c.requires.lent _ c.obu_at-o-2.ensures ∙ ap (λ (j : ℕ). get_or (obus_of c.args.unit.now) j no_obu) e

last_lies : (c : After-obu_at-o-2) → Lies c.args.unit.now (get_or (obus_of c.args.unit.now) c.loop-i.i no_obu)
last_lies c = writing_lies (λ i. (c.shared_slice_known-1.given i).fits) c.loop-i.invariant

pub packet_at-p-requires : goal.packet_at-p-requires
packet_at-p-requires c = omega (arith, ap length c.requires.lent.plan_is, plan_length (unit_plan c.args.mtu c.args.unit.now), c.requires.writable.there)

pub header_byte-requires : goal.header_byte-requires
header_byte-requires c =
    let a = c.args in
    let p = c.requires in
    (a.unit.now, packet_headed a.mtu a.unit.now a.k p.lent.small p.writable.there (λ i. (c.shared_slice_known-1.given i).fits) p.lent)

pub bounds-out-at : goal.bounds-out-at
bounds-out-at c =
    let a = c.args in
    omega (arith, c.requires.writable.room, ap length (payload_is a.mtu a.unit.now a.k c.requires.lent.small c.requires.writable.there))

pub overflow_sub-last : goal.overflow_sub-last
overflow_sub-last c = omega (arith, some (goal.at.overflow_sub-last c).After-packet_at-p)

pub loop-i-init : goal.loop-i-init
loop-i-init c =
    let a = c.args in
    let s = goal.at.loop-i-init c in
    let p = c.packet_at-p.result in
    let e : p.first_obu_index + p.num_obu_elements - 1 + 1 - p.first_obu_index ≡ p.num_obu_elements = omega (arith, some s.After-packet_at-p) in
    rw (e, is_packet s.After-packet_at-p, is_header s.After-header_byte)
    (writing_first a.mtu a.unit.now a.k c.requires.lent.small c.requires.writable.there a.out.now a.at c.requires.writable.room)

pub obu_at-o-requires : goal.obu_at-o-requires
obu_at-o-requires c = omega (arith, lent_long c.requires.lent, c.loop-i.invariant.inside, c.loop-i.invariant.some)

pub overflow_sub-o : goal.overflow_sub-o
overflow_sub-o c = omega (arith, ap (λ (o : Obu). o.size) (is_obu (goal.at.overflow_sub-o c).After-obu_at-o), c.loop-i.invariant.begins)

pub put_element-cursor-requires : goal.put_element-cursor-requires
put_element-cursor-requires c =
    let s = (goal.at.put_element-cursor-requires c).After-obu_at-o in
    let e = is_obu s in
    record {
      lies = subst (Lies c.args.unit.now) (sym e) (lies s);
      n_bound = omega (arith, ap (λ (o : Obu). o.size) e, c.loop-i.invariant.begins);
      n_in_bounds = writing_room c.loop-i.invariant (lies s) (omega arith) c.obu_at-o.result e;
    }

pub loop-i-preserved : goal.loop-i-preserved
loop-i-preserved c =
    let s = (goal.at.loop-i-preserved c).After-obu_at-o in
    let w = c.loop-i.invariant in
    let p = c.packet_at-p.result in
    let next = obu_lies c.args.unit.now (c.loop-i.i + 1) (λ i. (c.shared_slice_known-1.given i).fits) (omega (arith, w.inside)) in
    let e : p.first_obu_index + p.num_obu_elements - 1 + 1 - c.loop-i.i - 1 ≡ p.first_obu_index + p.num_obu_elements - 1 + 1 - (c.loop-i.i + 1) = omega arith in
    rw (← e) (writing_next w (lies s) (omega arith) (omega (arith, next.size)) c.obu_at-o.result (is_obu s) _ _ c.put_element-cursor.ensures)

pub obu_at-o-requires-2 : goal.obu_at-o-requires-2
obu_at-o-requires-2 c = omega (arith, lent_long c.requires.lent, c.loop-i.invariant.inside, c.loop-i.invariant.some)

pub put_element-requires : goal.put_element-requires
put_element-requires c =
    let s = (goal.at.put_element-requires c).After-obu_at-o-2 in
    let w = c.loop-i.invariant in
    let e = is_last s in
    record {
      lies = subst (Lies c.args.unit.now) (sym e) (last_lies s);
      n_bound = omega (arith, ap (λ (o : Obu). o.size) e, last_fits w (last_lies s) (omega arith));
      n_in_bounds = omega (arith, (writing_last w (last_lies s) (omega arith) c.obu_at-o-2.result e).0, w.room, w.storing.same);
    }

pub returns : goal.returns
returns c =
    let a = c.args in
    let s = goal.at.returns c in
    let z = writing_last c.loop-i.invariant (last_lies s.After-obu_at-o-2) (omega arith) c.obu_at-o-2.result (is_last s.After-obu_at-o-2) in
    let r = c.put_element.ensures in
    packet_written a.mtu a.unit.now a.k c.requires.lent.small c.requires.writable.there c.packet_at-p.result c.header_byte.result
    (is_packet s.After-packet_at-p) (is_header s.After-header_byte) a.out.now a.at (r.0 ∙ z.0, r.1 ∙ z.1)
