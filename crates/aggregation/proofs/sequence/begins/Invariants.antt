use mathlib.Core.Path.{◌≡◌}
use mathlib.Core.Bool.{false}
use lib.ListN.{drop}
use Rattle.obu.specs.Records.{obus_in}
use Rattle.aggregation.specs.Inside.{settled, seen_after}
use Rattle.aggregation.specs.declared.Seen.TheVariants.{Nothing}
use Rattle.aggregation.proofs.sequence.begins.Given as goal

-- not settled by the first i OBUs; the others go on from what these say
abbrev pub invariant-loop-i : goal.invariant-loop-i
invariant-loop-i l = (settled l.seen ≡ false) × (seen_after l.unit l.seen (drop l.i (obus_in l.obus)) ≡ seen_after l.unit Nothing (obus_in l.obus))
