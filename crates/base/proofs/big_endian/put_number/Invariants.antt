use Rattle.std.proofs.Common.{◌≡◌}
use Rattle.std.proofs.lemmas.List.Edits.{sets}
use Rattle.base.specs.BigEndian.{big_endian}
use Rattle.base.proofs.big_endian.put_number.Given as goal

abbrev pub invariant-loop-i : goal.invariant-loop-i
invariant-loop-i l = sets l.out l.at (big_endian l.i l.high) ≡ sets l.initial.out l.at (big_endian l.width l.value)
