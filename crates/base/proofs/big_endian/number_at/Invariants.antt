use Rattle.base.specs.BigEndian.{Reads}
use Rattle.base.proofs.big_endian.number_at.Given as goal

abbrev pub invariant-loop-byte : goal.invariant-loop-byte
invariant-loop-byte l = Reads l.bytes l.at l.byte-index l.value
