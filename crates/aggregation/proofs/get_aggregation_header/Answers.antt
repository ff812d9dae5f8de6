use mathlib.Core.Path.{sym, ap, ◌∙◌}
use native.Mathlib.Omega.{arith}
use Rattle.std.proofs.lemmas.Result.{err_from_is_err_and}
use Rattle.obu.specs.Records.{obus_in}
use Rattle.obu.specs.declared.Obu.{Obu}
use Rattle.obu.proofs.Records.{obus_count}
use Rattle.packetizer.specs.Records.{packets_in}
use Rattle.packetizer.proofs.Records.{packets_count}
use Rattle.aggregation.proofs.Calls.{none_there, lacks, answers}
use Rattle.aggregation.proofs.get_aggregation_header.Goals as goal

pub returns-then-plan-k : goal.returns-then-plan-k
returns-then-plan-k c =
    let a = c.args in
    none_there a.unit.now (obus_in a.obus.now) (packets_in a.plan.now) a.k (omega (arith, packets_count a.plan.now))

pub returns-in_err-i : goal.returns-in_err-i
returns-in_err-i c =
    let a = c.args in
    let p = err_from_is_err_and c.from_residual.result c.from_residual.ensures.1 in
    rw (p.1, p.2)
    (lacks a.unit.now (obus_in a.obus.now) (packets_in a.plan.now) a.k (omega (arith, packets_count a.plan.now)) _ _ (sym (obus_count a.obus.now))
    c.packet_at-p.ensures c.in_err-i.ensures)

pub returns : goal.returns
returns c =
    let a = c.args in
    let obus = obus_in a.obus.now in
    answers a.unit.now obus (packets_in a.plan.now) a.k (omega (arith, packets_count a.plan.now)) _ _ (sym (obus_count a.obus.now))
    c.packet_at-p.ensures c.in_ok-i.ensures _
    (λ same. c.rule.ensures a.unit.now obus (ap (λ (o : Obu). o.size) c.obu_at-size.ensures ∙ same) c.seen_in.ensures)
