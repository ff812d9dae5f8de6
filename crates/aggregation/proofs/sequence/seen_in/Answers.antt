use mathlib.Core.Path.{sym, ap, ◌∙◌}
use Prim.Native.Nat.{◌+◌}
use native.Mathlib.Omega.{arith}
use lib.ListN.{drop}
use Rattle.obu.specs.Records.{obus_in}
use Rattle.obu.proofs.Records.{obus_count}
use Rattle.aggregation.specs.Inside.{seen_next, seen_after}
use Rattle.aggregation.specs.declared.Seen.{Seen}
use Rattle.aggregation.proofs.Sequences.{seen_none, seen_step}
use Rattle.aggregation.proofs.sequence.seen_in.Goals as goal

pub loop-i-preserved : goal.loop-i-preserved
loop-i-preserved c =
    let unit = c.args.unit.now in
    let obus = obus_in c.args.obus.now in
    ap (λ (v : Seen). seen_after unit v (drop (c.loop-i.i + 1) obus)) (c.see-seen.ensures ∙ ap (seen_next unit c.loop-i.seen) c.obu_at.ensures)
    ∙ sym (seen_step unit obus c.loop-i.i (omega (arith, obus_count c.args.obus.now)) c.loop-i.seen)
    ∙ c.loop-i.invariant

pub returns : goal.returns
returns c =
    sym (seen_none c.args.unit.now c.loop-i.seen (obus_in c.args.obus.now) c.loop-i.i (omega (arith, obus_count c.args.obus.now))) ∙ c.loop-i.invariant
