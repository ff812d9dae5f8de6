use mathlib.Core.Path.{◌≡◌, sym, ap, ◌∙◌}
use Prim.Native.Nat.{ℕ, ◌+◌, ◌-◌, ◌≤◌, ◌<◌}
use native.Mathlib.Omega.{arith}
use mathlib.Core.List.{List}
use lib.ListN.{length, get_or, drop}
use Rattle.obu.specs.Unit.{unit_limit}
use Rattle.obu.specs.Records.{obus_in}
use Rattle.obu.specs.declared.Obu.{Obu}
use Rattle.packetizer.specs.Plan.{alone, plan_from}
use Rattle.packetizer.specs.Call.{sizes}
use Rattle.packetizer.specs.Cursor.{Walkable, to_come}
use Rattle.packetizer.specs.declared.PacketMetadata.{PacketMetadata}
use Rattle.packetizer.proofs.Totals.{total_count}
use Rattle.packetizer.proofs.Turns.{sizes_count, size_at}
use Rattle.packetizer.proofs.Cursors.{begins_with, come_new, come_middle, come_last}
use Rattle.packetizer.proofs.cursor.next_packet.Goals.{After-obu_at}
use Rattle.packetizer.proofs.cursor.next_packet.Goals as goal

few : {room : ℕ} {sizes : List ℕ} → Walkable room sizes → length sizes ≤ unit_limit
few {sizes = sizes} w = omega (arith, total_count sizes w.some, w.total)

-- the OBU goes on past the byte that the packet starts with
goes : (c : After-obu_at) → c.args.from < get_or (sizes (obus_in c.args.obus.now)) c.args.obu 0
goes c = (c.requires.starts.inside c.if-from-eq0.false).1

size : (c : After-obu_at) → c.obu_at.result.size ≡ get_or (sizes (obus_in c.args.obus.now)) c.args.obu 0
size c = ap (λ (o : Obu). o.size) c.obu_at.ensures ∙ sym (size_at (obus_in c.args.obus.now) c.args.obu)

pub overflow_cast-i : goal.overflow_cast-i
overflow_cast-i c = omega (arith, few c.requires.walkable, c.requires.inside)

pub returns-then-from-eq0 : goal.returns-then-from-eq0
returns-then-from-eq0 c = let a = c.args in
    let of : List ℕ = sizes (obus_in a.obus.now) in
    begins_with
    (ap (λ (o : ℕ). to_come a.room of a.obu o a.start) c.if-from-eq0.true
    ∙ come_new a.room of a.obu c.requires.inside a.start
    ∙ ap (plan_from a.room a.obu (drop a.obu of)) (sym c.new_packet.ensures))
    c.fill_packet-f.ensures

pub obu_at-requires : goal.obu_at-requires
obu_at-requires c = omega (arith, c.requires.inside, sizes_count c.args.obus.now)

pub returns-then-room-left : goal.returns-then-room-left
returns-then-room-left c = let a = c.args in
    let o = (goal.at.returns-then-room-left c).After-obu_at in
    come_middle a.room (sizes (obus_in a.obus.now)) a.obu c.requires.inside a.from a.start c.if-from-eq0.false (goes o) c.requires.walkable.large (omega (arith, size o, c.if-room-left.true)) c.alone_in_packet.ensures

pub overflow_add-obu : goal.overflow_add-obu
overflow_add-obu c = omega (arith, few c.requires.walkable, c.requires.inside)

pub returns : goal.returns
returns c = let a = c.args in
    let o = (goal.at.returns c).After-obu_at in
    let of : List ℕ = sizes (obus_in a.obus.now) in
    let from : PacketMetadata → List PacketMetadata = plan_from a.room (a.obu + 1) (drop (a.obu + 1) of) in
    begins_with
    (come_last a.room of a.obu c.requires.inside a.from a.start c.if-from-eq0.false (goes o) c.requires.walkable.large (omega (arith, size o, c.if-room-left.false))
    ∙ ap (λ (m : ℕ). from (alone a.obu a.from (m - a.from) a.start)) (sym (size o))
    ∙ ap from (sym c.alone_in_packet-2.ensures))
    c.fill_packet-f-2.ensures
