use mathlib.Core.Path.{◌≡◌, ap, ◌∙◌}
use Prim.Native.Nat.{◌+◌, ◌<◌}
use native.Mathlib.Omega.{arith}
use borrow.Author.Tests.{ne_eqb}
use mathlib.Core.Bool.{◌&&◌}
use mathlib.Core.List.{List}
use lib.Dec.{eqb}
use lib.ListN.{length}
use Rattle.obu.specs.declared.Obu.{Obu}
use Rattle.packetizer.specs.Call.{unit_plan}
use Rattle.packetizer.proofs.Records.{plan_length}
use Rattle.aggregation.specs.New.{new_sequence}
use Rattle.aggregation.specs.Header.{any_outside}
use Rattle.payloader.proofs.Packets.{none_outside, lent_obus}
use Rattle.payloader.proofs.Runs.{sending_first, sending_room, sending_next, sending_last}
use Rattle.payloader.proofs.put_packets.Goals as goal

pub new_at-new-requires : goal.new_at-new-requires
new_at-new-requires c =
    ap (any_outside c.args.unit.now) (lent_obus (λ i. (c.shared_slice_known-1.given i).fits) c.requires.lent) ∙ none_outside c.args.unit.now

pub loop-n-init : goal.loop-n-init
loop-n-init c =
    let e : c.args.first + 0 ≡ c.args.first = omega arith in (
      sending_first,
      rw e
          (c.new_at-new.ensures
          ∙ ap (λ (os : List Obu). eqb c.args.first 0 && new_sequence c.args.unit.now os) (lent_obus (λ i. (c.shared_slice_known-1.given i).fits) c.requires.lent)),
    )

pub overflow_add-first : goal.overflow_add-first
overflow_add-first c =
    let inside : c.args.first + c.loop-n.n < length (unit_plan c.args.mtu c.args.unit.now) = omega (arith, c.requires.fits.there) in
    omega (arith, inside, ap length c.requires.lent.plan_is, plan_length (unit_plan c.args.mtu c.args.unit.now))

pub put_packet-at-requires-clause-writable : goal.put_packet-at-requires-clause-writable
put_packet-at-requires-clause-writable c =
    let s = c.requires.fits in
    record { there = omega (arith, s.there); new_is = c.loop-n.invariant.1; room = sending_room c.loop-n.invariant.0 s.there c.loop-n-test.true s.room }

pub loop-n-preserved : goal.loop-n-preserved
loop-n-preserved c = (
  sending_next c.loop-n.invariant.0 c.requires.fits.there c.loop-n-test.true c.put_packet-at.ensures,
  rw (ne_eqb (c.args.first + (c.loop-n.n + 1)) 0 (λ e. omega arith)),
)

pub returns : goal.returns
returns c = sending_last c.loop-n.invariant.0 (omega arith)
