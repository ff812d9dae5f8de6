use Rattle.std.proofs.Common.{[], sym, refl, ap, arith}
use Rattle.base.specs.Lists.{front}
use Rattle.turns.specs.Orders.{Told}
use Rattle.turns.proofs.Turning.{asked}
use Rattle.packing.specs.declared.Place.{Place}
use Rattle.packing.specs.Pack.{unit_width}
use Rattle.packing.specs.Steps.{next, left_told}
use Rattle.payloader.proofs.Starts.{left_none}
use Rattle.packing.proofs.Turning.{gives, ready_as}
use Rattle.packing.proofs.packet_step.Goals as goal

pub returns : goal.returns
returns c = let a = c.args in
    let p = next a.place in
    let told = ap (left_told a.place a.progress) (left_none a.place.mtu a.unit.now a.progress.packet (omega (arith, c.if-progress.false, c.requires.ready.packets_is))) in (
      λ line. gives p c.following.ensures tt (asked p [] 0 unit_width told c.following.ensures c.ask.ensures refl (omega arith) (omega arith)),
      ap (λ (t : Told Place). front t.written a.written.now) (sym told),
      ready_as _ _ _ c.following.ensures tt,
    )
