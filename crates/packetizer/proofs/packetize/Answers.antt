use mathlib.Core.Path.{◌≡◌, refl, sym, ap, ◌∙◌}
use Prim.Native.Nat.{ℕ, ◌-◌, ◌*◌, ◌≤◌, ◌<◌}
use native.Mathlib.Omega.{arith}
use mathlib.Core.Bool.{true}
use mathlib.Core.Logic.{⊎_elim}
use mathlib.Core.List.{List, []}
use lib.ListN.{length, get_or}
use Rattle.obu.specs.Unit.{unit_limit}
use Rattle.obu.specs.Records.{obus_in}
use Rattle.obu.specs.declared.Obu.{Obu}
use Rattle.packetizer.specs.Plan.{least_mtu, start_limit, plan_of}
use Rattle.packetizer.specs.Call.{sizes}
use Rattle.packetizer.specs.Paper.{recorded}
use Rattle.packetizer.specs.Records.{plan_numbers}
use Rattle.packetizer.specs.Laws.{planned_bytes}
use Rattle.packetizer.specs.declared.PacketMetadata.{PacketMetadata}
use Rattle.packetizer.proofs.Stores.{recorded_none}
use Rattle.packetizer.proofs.Planning.{plan_none, plan_low, plan_some}
use Rattle.packetizer.proofs.Totals.{total_each, total_count, plan_short, plan_bytes}
use Rattle.packetizer.proofs.Turns.{sizes_count, size_at, current_held, whole_plan, placing_first, placing_asks, placing_next, placing_count, placing_end}
use Rattle.packetizer.proofs.packetize.Goals.{After-new_packet, After-obu_at-o}
use Rattle.packetizer.proofs.packetize.Goals as goal

-- ---- the plan that the loop goes through

module _ (g : _) (c : After-new_packet g) where
  abbrev planned : List PacketMetadata
  planned = whole_plan (c.args.mtu - 1) (sizes (obus_in c.args.obus.now))

  least : least_mtu ≤ c.args.mtu
  least = omega (arith, c.if-mtu-lt-LEAST_MTU.false)

  some : plan_of c.args.mtu (sizes (obus_in c.args.obus.now)) ≡ planned
  some = plan_some c.args.mtu (sizes (obus_in c.args.obus.now)) least (λ e. c.if-count-eq0.false (sym (sizes_count c.args.obus.now) ∙ e))

  few : length planned ≤ unit_limit
  few = omega (arith, ap length some, plan_short c.args.mtu (sizes (obus_in c.args.obus.now)) least c.requires.some, c.requires.total)

  near : planned_bytes planned ≤ start_limit
  near = omega (arith, ap planned_bytes some, plan_bytes c.args.mtu (sizes (obus_in c.args.obus.now)) least c.requires.some, c.requires.total)

  room : g.R.Recording.stored ≡ true → length planned * plan_numbers ≤ length c.args.plan.now
  room w = omega (arith, c.requires.room w, ap length some)

-- ---- OBU i

module _ (g : _) (c : After-obu_at-o g) where
  inside : c.loop-i.i < length (sizes (obus_in c.args.obus.now))
  inside = omega (arith, c.loop-i-test.true, sizes_count c.args.obus.now)

  size : c.obu_at-o.result.size ≡ get_or (sizes (obus_in c.args.obus.now)) c.loop-i.i 0
  size = ap (λ (o : Obu). o.size) c.obu_at-o.ensures ∙ sym (size_at (obus_in c.args.obus.now) c.loop-i.i)

-- ---- the goals

pub returns-then-count-eq0 : goal.returns-then-count-eq0
returns-then-count-eq0 g c =
    let of : List ℕ = sizes (obus_in c.args.obus.now) in
    let none : plan_of c.args.mtu of ≡ [] = ⊎_elim (λ e. plan_none c.args.mtu of (sizes_count c.args.obus.now ∙ e)) (λ e. plan_low c.args.mtu of e.1) c.then-count-eq0.either in
    rw none (refl, recorded_none g.R.Recording.stored c.args.plan.now 0)

pub loop-i-init : goal.loop-i-init
loop-i-init g c = placing_first c.new_packet.ensures

pub overflow_cast-i : goal.overflow_cast-i
overflow_cast-i g c =
    omega (arith, c.requires.total, total_count (sizes (obus_in c.args.obus.now)) c.requires.some, inside g (goal.at.overflow_cast-i g c).After-obu_at-o)

pub place_obu-f-requires : goal.place_obu-f-requires
place_obu-f-requires g c =
    let b = (goal.at.place_obu-f-requires g c).After-new_packet in
    let l = inside g (goal.at.place_obu-f-requires g c).After-obu_at-o in
    let v = c.loop-i in
    let s = c.requires in
    let held = current_held _ _ _ _ v.invariant.current in
    rw (size g (goal.at.place_obu-f-requires g c).After-obu_at-o) (record {
      placeable = record {
        large = omega (arith, least g b);
        most = omega (arith, s.most);
        some = s.some v.i l;
        small = omega (arith, total_each (sizes (obus_in c.args.obus.now)) v.i, s.total);
        few = held.0;
        fits = held.1;
      };
      closable = placing_asks v.invariant l (few g b) (near g b) (room g b);
    })

pub loop-i-preserved : goal.loop-i-preserved
loop-i-preserved g c =
    let o = (goal.at.loop-i-preserved g c).After-obu_at-o in
    placing_next c.loop-i.invariant (size g o) (omega (arith, least g (goal.at.loop-i-preserved g c).After-new_packet)) c.requires.some (inside g o)
    c.place_obu-f.auto.plan c.place_obu-f.ensures

pub put-requires : goal.put-requires
put-requires g c = λ w. let v = c.loop-i.invariant in
    omega (arith, room g (goal.at.put-requires g c).After-new_packet w, placing_count v (omega (arith, c.loop-i-test.false, sizes_count c.args.obus.now)), v.kept)

pub overflow_add-result : goal.overflow_add-result
overflow_add-result g c =
    omega (arith, few g (goal.at.overflow_add-result g c).After-new_packet, placing_count c.loop-i.invariant (omega (arith, c.loop-i-test.false, sizes_count c.args.obus.now)))

pub returns : goal.returns
returns g c =
    let ended : length (sizes (obus_in c.args.obus.now)) ≤ c.loop-i.i = omega (arith, c.loop-i-test.false, sizes_count c.args.obus.now) in
    let e = sym (some g (goal.at.returns g c).After-new_packet) in (
      placing_count c.loop-i.invariant ended ∙ ap length e,
      placing_end c.loop-i.invariant ended c.put.ensures
          ∙ ap (recorded g.R.Recording.stored c.args.plan.now 0) e,
    )
