use Rattle.std.proofs.Common.{rules}
use Rattle.packing.specs.Pack.{version_with}
use Rattle.packing.proofs.Reading.{version_first}
use Rattle.packing.proofs.input.read_version.Goals as goal

pub returns-in_err-first : goal.returns-in_err-first
returns-in_err-first c = rw c.from_residual.ensures (rw c.in_err-first.was at (version_first c.args.bytes.now c.first.ensures.value))

pub returns-in-1 : goal.returns-in-1
unfolding version_with
returns-in-1 c = rw (c.in_ok-first.was, c.in-1.is) at (version_first c.args.bytes.now c.first.ensures.value)

pub returns-in-2 : goal.returns-in-2
unfolding version_with
returns-in-2 c = rw (c.in_ok-first.was, c.in-2.is) at (version_first c.args.bytes.now c.first.ensures.value)

pub returns-in_default : goal.returns-in_default
unfolding version_with
returns-in_default c = let e = rw (c.in_ok-first.was) at (version_first c.args.bytes.now c.first.ensures.value) in let f = c.in_default in search rules
