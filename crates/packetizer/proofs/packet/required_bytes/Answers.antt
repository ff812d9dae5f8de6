use mathlib.Core.Path.{sym}
use native.Mathlib.Omega.{arith}
use Rattle.packetizer.proofs.Fragments.{field_most}
use Rattle.packetizer.proofs.Steps.{need_few, need_fourth}
use Rattle.packetizer.proofs.packet.required_bytes.Goals as goal

pub overflow_cast-result : goal.overflow_cast-result
overflow_cast-result c = omega (arith, c.leb128_size.ensures, field_most c.args.n)

pub overflow_add-result : goal.overflow_add-result
overflow_add-result c = omega (arith, c.leb128_size.ensures, field_most c.args.n)

pub returns-then-p-ge-MAX_NUM_OBUS_TO_OMIT_SIZE : goal.returns-then-p-ge-MAX_NUM_OBUS_TO_OMIT_SIZE
returns-then-p-ge-MAX_NUM_OBUS_TO_OMIT_SIZE c = rw c.leb128_size.ensures (sym (need_fourth c.args.p c.args.n c.if-p-ge-MAX_NUM_OBUS_TO_OMIT_SIZE.true))

pub returns : goal.returns
returns c = sym (need_few c.args.p c.args.n c.if-p-ge-MAX_NUM_OBUS_TO_OMIT_SIZE.false)
