use mathlib.Core.Path.{refl, sym, ap, ◌∙◌}
use Prim.Native.Nat.{◌+◌}
use native.Mathlib.Omega.{arith}
use lib.ListN.{drop}
use Rattle.std.proofs.lemmas.Result.{err_from_is_err_and}
use Rattle.packetizer.specs.Records.{no_packet}
use Rattle.aggregation.specs.Inside.{seen_after}
use Rattle.aggregation.specs.declared.Seen.{Seen}
use Rattle.aggregation.proofs.Calls.{none_there, lacks, answers}
use Rattle.aggregation.proofs.Sequences.{seen_none, seen_step}
use Rattle.aggregation.proofs.header_of.Goals as goal

pub returns-in_default : goal.returns-in_default
returns-in_default c = let a = c.args in none_there a.unit.now a.obus.now a.packets.now a.k c.in_default.ensures.lookup.3

pub returns-in_err-i : goal.returns-in_err-i
returns-in_err-i c =
    let a = c.args in
    let there = c.in-Some.ensures.lookup.3 in
    let p = err_from_is_err_and c.from_residual.result c.from_residual.ensures.1 in
    rw (p.1, p.2) (lacks a.unit.now a.obus.now a.packets.now a.k there.0 _ _ refl (there.1 no_packet) c.in_err-i.ensures)

pub loop-o-preserved : goal.loop-o-preserved
loop-o-preserved c =
    let unit = c.args.unit.now in
    let obus = c.args.obus.now in
    ap (λ (v : Seen). seen_after unit v (drop (c.loop-o.o-index + 1) obus)) c.see-seen.ensures
    ∙ sym (seen_step unit obus c.loop-o.o-index (omega arith) c.loop-o.seen)
    ∙ c.loop-o.invariant

pub returns : goal.returns
returns c =
    let a = c.args in
    let there = c.in-Some.ensures.lookup.3 in
    answers a.unit.now a.obus.now a.packets.now a.k there.0 _ _ refl (there.1 no_packet) c.in_ok-i.ensures _
    (λ same. c.rule.ensures a.unit.now a.obus.now same (sym (seen_none a.unit.now c.loop-o.seen a.obus.now c.loop-o.o-index (omega arith)) ∙ c.loop-o.invariant))
