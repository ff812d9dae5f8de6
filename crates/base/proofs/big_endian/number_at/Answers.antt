use Rattle.std.proofs.Common.{◌≡◌, ◌<◌, ◌+◌, ◌-◌, get_or, take, drop, ◌∙◌, arith, length-take}
use Rattle.std.proofs.lemmas.List.{get_or-drop, get_or-take}
use Rattle.base.proofs.BigEndian.{reads_none, reads_more}
use Rattle.base.proofs.big_endian.number_at.Goals as goal

pub loop-byte-init : goal.loop-byte-init
loop-byte-init c = reads_none _ _

pub loop-byte-preserved : goal.loop-byte-preserved
loop-byte-preserved c =
    let l = c.args.bytes.now in
    let i = c.loop-byte.byte-index in
    let n = c.args.at + c.args.width - c.args.at in
    let h : i < n = omega (arith, length-take n (drop c.args.at l), c.loop-byte-test.true) in
    let same : get_or (take n (drop c.args.at l)) i 0 ≡ get_or l (c.args.at + i) 0 = get_or-take n (drop c.args.at l) i 0 h ∙ get_or-drop c.args.at l i 0 in
    rw same (reads_more c.loop-byte.invariant (omega (arith, c.type_inv.bytes (c.args.at + i))) (omega arith))
