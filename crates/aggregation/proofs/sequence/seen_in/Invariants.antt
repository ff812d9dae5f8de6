use mathlib.Core.Path.{◌≡◌}
use lib.ListN.{drop}
use Rattle.obu.specs.Records.{obus_in}
use Rattle.aggregation.specs.Inside.{seen_after}
use Rattle.aggregation.specs.declared.Seen.TheVariants.{Nothing}
use Rattle.aggregation.proofs.sequence.seen_in.Given as goal

-- the others go on from what the first i OBUs say
abbrev pub invariant-loop-i : goal.invariant-loop-i
invariant-loop-i l = (seen_after l.unit l.seen (drop l.i (obus_in l.obus)) ≡ seen_after l.unit Nothing (obus_in l.obus))
