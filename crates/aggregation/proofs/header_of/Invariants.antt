use Rattle.std.proofs.Common.{◌≡◌, drop}
use Rattle.aggregation.specs.Inside.{seen_after}
use Rattle.aggregation.specs.declared.Seen.TheVariants.{Nothing}
use Rattle.aggregation.proofs.header_of.Given as goal

-- the others go on from what the first OBUs say
abbrev pub invariant-loop-o : goal.invariant-loop-o
invariant-loop-o l = seen_after l.unit l.seen (drop l.o-index l.obus) ≡ seen_after l.unit Nothing l.obus
