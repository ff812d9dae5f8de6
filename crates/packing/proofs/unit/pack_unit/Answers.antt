use Rattle.std.proofs.Common.{◌/◌, length, take, sym, ap, ◌∙◌, arith, length-take-le}
use Rattle.std.proofs.lemmas.Result.{err_from_is_err_and}
use Rattle.base.specs.Answers.{paper_at}
use Rattle.packetizer.specs.Call.{After}
use Rattle.obu.specs.Records.{obu_numbers}
use Rattle.packetizer.specs.Records.{plan_numbers}
use Rattle.packing.specs.Pack.{answer_in}
use Rattle.packing.proofs.Units.{answer_is, unit_ready, begins_as, unit_cut, unit_planned}
use Rattle.packing.proofs.unit.pack_unit.Goals as goal

pub returns-then-bytes-stated-clause-answer : goal.returns-then-bytes-stated-clause-answer
returns-then-bytes-stated-clause-answer c = let a = c.args in
    unit_cut (answer_in (length a.obus.now / obu_numbers) (length a.plan.now / plan_numbers)) a.mtu a.stated a.bytes.now c.if-bytes-stated.true

pub returns-in_err-plan_unit-clause-answer : goal.returns-in_err-plan_unit-clause-answer
returns-in_err-plan_unit-clause-answer c =
    let a = c.args in
    let e = err_from_is_err_and c.from_residual.result c.from_residual.ensures.1 in
    rw (e.1, e.2)
    (unit_planned _ a.mtu a.stated a.bytes.now _ c.if-bytes-stated.false
    (sym (ap paper_at c.in_err-plan_unit.was) ∙ ap (λ (x : After). x.answer) c.plan_unit.ensures ∙ answer_is a.mtu (take a.stated a.bytes.now) a.obus.now a.plan.now))

pub slice_bounds-plan_unit-end : goal.slice_bounds-plan_unit-end
slice_bounds-plan_unit-end c = sym (length-take-le _ c.args.bytes.now (omega arith))

pub returns-clause-answer : goal.returns-clause-answer
returns-clause-answer c =
    let a = c.args in
    unit_planned _ a.mtu a.stated a.bytes.now _ c.if-bytes-stated.false
    (sym (ap paper_at c.in_ok-plan_unit.was) ∙ ap (λ (x : After). x.answer) c.plan_unit.ensures ∙ answer_is a.mtu (take a.stated a.bytes.now) a.obus.now a.plan.now)

pub returns-clause-ready : goal.returns-clause-ready
returns-clause-ready c =
    let a = c.args in
    let after = c.plan_unit.ensures in
    let long = length-take-le a.stated a.bytes.now c.if-bytes-stated.false in
    begins_as long
    (unit_ready a.mtu (take a.stated a.bytes.now) a.obus.now a.plan.now _ (omega (arith, long, c.requires)) (sym (ap paper_at c.in_ok-plan_unit.was) ∙ ap (λ (x : After). x.answer) after) _ _ (ap (λ (x : After). x.obus) after) (ap (λ (x : After). x.plan) after))
