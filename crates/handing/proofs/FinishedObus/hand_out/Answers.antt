use mathlib.Core.Path.{refl}
use Prim.Native.Nat.{◌≤◌}
use native.Mathlib.Omega.{arith}
use borrow.Author.Rules.{rules}
use Rattle.handing.specs.Inside.{parts_of}
use Rattle.handing.proofs.Cursors.{payload_some}
use Rattle.handing.proofs.Turns.{handing_end, handing_stands, handing_turn, handing_part, handing_lent, handing_fits, handing_room, handing_broken, handing_next, counted_given, counted_refused}
use Rattle.handing.proofs.FinishedObus.hand_out.Goals as goal

pub bounds-self-0 : goal.bounds-self-0
bounds-self-0 g c = payload_some c.args.self.payload.now (parts_of c.args.self.payload.now) c.args.self.finishing.whole

pub part_at-part-requires : goal.part_at-part-requires
part_at-part-requires g c = handing_stands c.loop-i.invariant c.args.self.finishing c.loop-i-test.true c.header_w-w.ensures c.has_field.ensures

pub slice_bounds-o-count : goal.slice_bounds-o-count
slice_bounds-o-count g c =
    let t = handing_turn c.loop-i.invariant c.args.self.finishing c.loop-i-test.true c.header_w-w.ensures c.has_field.ensures c.part_at-part.ensures in
    let l = handing_part c.loop-i.invariant c.args.self.finishing t in
    omega arith

pub slice_bounds-o-start : goal.slice_bounds-o-start
slice_bounds-o-start g c =
    let t = handing_turn c.loop-i.invariant c.args.self.finishing c.loop-i-test.true c.header_w-w.ensures c.has_field.ensures c.part_at-part.ensures in
    let l = handing_part c.loop-i.invariant c.args.self.finishing t in
    let h : c.part_at-part.result.start ≤ c.part_at-part.result.next = omega arith in
    h

pub slice_bounds-o-end-in-loop-i : goal.slice_bounds-o-end-in-loop-i
slice_bounds-o-end-in-loop-i g c =
    let t = handing_turn c.loop-i.invariant c.args.self.finishing c.loop-i-test.true c.header_w-w.ensures c.has_field.ensures c.part_at-part.ensures in
    let l = handing_part c.loop-i.invariant c.args.self.finishing t in
    l.within

pub invariant_of-o : goal.invariant_of-o
invariant_of-o g c =
    let t = handing_turn c.loop-i.invariant c.args.self.finishing c.loop-i-test.true c.header_w-w.ensures c.has_field.ensures c.part_at-part.ensures in
    let h = handing_lent c.loop-i.invariant c.args.self.finishing t in
    record { some = h.1; small = h.2 }

pub finish_obu-requires : goal.finish_obu-requires
finish_obu-requires g c =
    let t = handing_turn c.loop-i.invariant c.args.self.finishing c.loop-i-test.true c.header_w-w.ensures c.has_field.ensures c.part_at-part.ensures in
    handing_room c.loop-i.invariant c.args.self.finishing t c.requires

pub returns-in_err-one : goal.returns-in_err-one
returns-in_err-one g c =
    let t = handing_turn c.loop-i.invariant c.args.self.finishing c.loop-i-test.true c.header_w-w.ensures c.has_field.ensures c.part_at-part.ensures in
    let h = handing_broken c.loop-i.invariant c.args.self.finishing t c.requires
    (counted_refused _ _ c.in_err-one.ensures.0) c.finish_obu.ensures.1 in
    (search rules, h.1)

pub overflow_add-sum : goal.overflow_add-sum
overflow_add-sum g c =
    let t = handing_turn c.loop-i.invariant c.args.self.finishing c.loop-i-test.true c.header_w-w.ensures c.has_field.ensures c.part_at-part.ensures in
    let b = counted_given _ c.in_ok-one.ensures.0 in
    let h = handing_fits c.loop-i.invariant c.args.self.finishing t b.1 b.2 in
    omega arith

pub overflow_add-sum-in-loop-i : goal.overflow_add-sum-in-loop-i
overflow_add-sum-in-loop-i g c =
    let t = handing_turn c.loop-i.invariant c.args.self.finishing c.loop-i-test.true c.header_w-w.ensures c.has_field.ensures c.part_at-part.ensures in
    let b = counted_given _ c.in_ok-one.ensures.0 in
    let h = handing_fits c.loop-i.invariant c.args.self.finishing t b.1 b.2 in
    omega arith

pub loop-i-preserved : goal.loop-i-preserved
loop-i-preserved g c =
    let t = handing_turn c.loop-i.invariant c.args.self.finishing c.loop-i-test.true c.header_w-w.ensures c.has_field.ensures c.part_at-part.ensures in
    let b = counted_given _ c.in_ok-one.ensures.0 in
    handing_next c.loop-i.invariant c.args.self.finishing t b.1 b.2 refl c.finish_obu.auto.out c.finish_obu.ensures.1

pub returns : goal.returns
returns g c = handing_end c.loop-i.invariant c.args.self.finishing c.loop-i-test.false
