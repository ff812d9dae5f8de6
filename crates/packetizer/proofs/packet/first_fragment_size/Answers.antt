use mathlib.Core.Path.{sym, ◌∙◌}
use Rattle.packetizer.proofs.Steps.{fragment_few, fragment_fourth}
use Rattle.packetizer.proofs.packet.first_fragment_size.Goals as goal

pub returns-then-p-ge-MAX_NUM_OBUS_TO_OMIT_SIZE : goal.returns-then-p-ge-MAX_NUM_OBUS_TO_OMIT_SIZE
returns-then-p-ge-MAX_NUM_OBUS_TO_OMIT_SIZE c = c.min.ensures ∙ sym (fragment_fourth c.args.p c.args.room c.args.size c.max_fragment_size.result c.if-p-ge-MAX_NUM_OBUS_TO_OMIT_SIZE.true c.max_fragment_size.ensures)

pub returns : goal.returns
returns c = c.min-2.ensures ∙ sym (fragment_few c.args.p c.args.room c.args.size c.if-p-ge-MAX_NUM_OBUS_TO_OMIT_SIZE.false)
