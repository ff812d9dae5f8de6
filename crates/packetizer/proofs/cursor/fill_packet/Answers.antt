use mathlib.Core.Path.{◌≡◌, refl, sym, ap, subst, ◌∙◌}
use Prim.Native.Nat.{ℕ, ◌+◌, ◌/◌, ◌≤◌, ◌<◌}
use native.Mathlib.Omega.{arith}
use mathlib.Core.Bool.{false}
use mathlib.Core.List.{List}
use lib.ListN.{length, get_or, drop}
use Rattle.obu.specs.Unit.{unit_limit}
use Rattle.obu.specs.Records.{obu_numbers, obus_in}
use Rattle.obu.specs.declared.Obu.{Obu}
use Rattle.packetizer.specs.Plan.{is_full, plan_from}
use Rattle.packetizer.specs.Call.{sizes}
use Rattle.packetizer.specs.Cursor.{Begins}
use Rattle.packetizer.proofs.Placing.{fragment_below}
use Rattle.packetizer.proofs.Totals.{total_each}
use Rattle.packetizer.proofs.Turns.{sizes_count, size_at}
use Rattle.packetizer.proofs.Cursors.{begins_with, fill_last, fill_full, fill_charged, fill_whole, fill_cut}
use Rattle.packetizer.proofs.cursor.fill_packet.Goals.{After-charge-q}
use Rattle.packetizer.proofs.cursor.fill_packet.Goals as goal

-- ---- OBU i, and the packet with the charge

inside : (c : After-charge-q) → c.loop-i.i < length (sizes (obus_in c.args.obus.now))
inside c = omega (arith, c.loop-i-test.true, sizes_count c.args.obus.now)

size : (c : After-charge-q) → c.obu_at-size.result.size ≡ get_or (sizes (obus_in c.args.obus.now)) c.loop-i.i 0
size c = ap (λ (o : Obu). o.size) c.obu_at-size.ensures ∙ sym (size_at (obus_in c.args.obus.now) c.loop-i.i)

small : (c : After-charge-q) → (1 ≤ c.obu_at-size.result.size) × (c.obu_at-size.result.size ≤ unit_limit)
small c =
    omega (arith, size c, c.requires.walkable.some c.loop-i.i (inside c), total_each (sizes (obus_in c.args.obus.now)) c.loop-i.i, c.requires.walkable.total)

free : (c : After-charge-q) → is_full c.args.room c.loop-i.p ≡ false
free c = sym c.is_full.ensures ∙ c.if-is_full.false

charged : (c : After-charge-q) → (c.charge-q.result.packet_size + 1 ≤ c.args.room) × (c.charge-q.result.num_obu_elements ≤ c.charge-q.result.packet_size)
charged c = fill_charged c.requires.walkable c.loop-i.invariant.1 (inside c) (size c) c.charge-q.ensures (free c)

-- ---- the goals

pub returns-then-is_full : goal.returns-then-is_full
returns-then-is_full c =
    let inside : c.loop-i.i < length (sizes (obus_in c.args.obus.now)) = omega (arith, c.loop-i-test.true, sizes_count c.args.obus.now) in
    begins_with c.loop-i.invariant.0
    (fill_full c.requires.walkable c.loop-i.invariant.1 inside refl (sym c.is_full.ensures ∙ c.if-is_full.true))

pub required_bytes-need-requires : goal.required_bytes-need-requires
required_bytes-need-requires c = (small c).1

pub overflow_sub-room : goal.overflow_sub-room
overflow_sub-room c = let q = charged (goal.at.overflow_sub-room c).After-charge-q in omega (arith, q)

pub first_fragment_size-n-requires : goal.first_fragment_size-n-requires
first_fragment_size-n-requires c = let a = (goal.at.first_fragment_size-n-requires c).After-charge-q in
    omega (arith, charged a, small a)

pub cut_at-requires : goal.cut_at-requires
cut_at-requires c = let a = (goal.at.cut_at-requires c).After-charge-q in
    omega (arith, charged a, small a, c.requires.walkable.most, c.first_fragment_size-n.ensures, fragment_below c.args.room c.charge-q.result c.obu_at-size.result.size)

pub returns-then-need-room : goal.returns-then-need-room
returns-then-need-room c = let a = (goal.at.returns-then-need-room c).After-charge-q in
    begins_with c.loop-i.invariant.0
    (fill_cut c.requires.walkable c.loop-i.invariant.1 (inside a) (size a) c.charge-q.ensures (free a) c.first_fragment_size-n.ensures
    (omega (arith, c.required_bytes-need.ensures, c.if-need-room.true))
    c.cut_at.ensures)

pub with_element-p-requires : goal.with_element-p-requires
with_element-p-requires c = let a = (goal.at.with_element-p-requires c).After-charge-q in
    let m = c.requires.walkable.most in
    ((small a).1, omega (arith, charged a), omega (arith, charged a), c.required_bytes-need.ensures)

pub loop-i-preserved : goal.loop-i-preserved
loop-i-preserved c = let a = (goal.at.loop-i-preserved c).After-charge-q in
    let w = fill_whole c.requires.walkable c.loop-i.invariant.1 (inside a) (size a) c.charge-q.ensures (free a) (omega (arith, c.required_bytes-need.ensures, c.if-need-room.false)) c.with_element-p.ensures in
    (c.loop-i.invariant.0 ∙ w.0, w.1)

pub returns : goal.returns
returns c =
    let ended : c.loop-i.i ≡ length c.args.obus.now / obu_numbers = omega (arith, c.loop-i-test.false, c.loop-i.invariant.1.within, sizes_count c.args.obus.now) in
    let of : List ℕ = sizes (obus_in c.args.obus.now) in
    begins_with c.loop-i.invariant.0
    (subst (λ (j : ℕ). Begins c.args.room of (plan_from c.args.room c.loop-i.i (drop c.loop-i.i of) c.loop-i.p) c.loop-i.p j 0) ended
    (fill_last c.requires.walkable c.loop-i.invariant.1 (omega (arith, c.loop-i-test.false, sizes_count c.args.obus.now))))
