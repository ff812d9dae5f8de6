use native.Mathlib.Omega.{arith}
use Rattle.packetizer.proofs.Spreading.{spreading_first, spreading_room, spreading_near, spreading_next, spreading_end}
use Rattle.packetizer.proofs.spread_obu.Goals as goal

pub loop-offset-init : goal.loop-offset-init
loop-offset-init g c = spreading_first (omega arith)

pub put-requires : goal.put-requires
put-requires g c = spreading_room c.loop-offset.invariant c.requires.closable c.loop-offset-test.true

pub start_after-next-requires : goal.start_after-next-requires
start_after-next-requires g c = rw c.alone_in_packet-p.ensures (spreading_near c.loop-offset.invariant c.requires.closable c.loop-offset-test.true)

pub returns : goal.returns
returns g c = spreading_end c.loop-offset.invariant c.loop-offset-test.false c.alone_in_packet.ensures

pub loop-offset-preserved : goal.loop-offset-preserved
loop-offset-preserved g c =
    rw c.start_after-next.ensures
    (spreading_next c.loop-offset.invariant c.requires.some c.loop-offset-test.true c.put.auto.plan c.alone_in_packet-p.ensures c.put.ensures)
