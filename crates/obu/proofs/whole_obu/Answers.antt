use mathlib.Core.Path.{sym, subst, ◌∙◌}
use native.Mathlib.Omega.{arith}
use Rattle.obu.specs.Laws.{Spans}
use Rattle.obu.proofs.Fronts.{some_all, front_spans}
use Rattle.obu.proofs.Wires.{whole_found, whole_short, whole_stopped}
use Rattle.obu.proofs.whole_obu.Goals as goal

pub span-requires : goal.span-requires
span-requires c =
    let s = some_all c.args.bytes.now c.args.total c.requires.1 c.requires.2 in
    let f = subst (Spans s.0) (sym (c.in-Ok.ensures s.0 s.1 s.2)) (front_spans s.0) in
    omega (arith, f, s.2)

pub returns-in-Ok : goal.returns-in-Ok
returns-in-Ok c = λ all e l. whole_found all _ (c.in-Ok.ensures all e l) (sym c.span.ensures ∙ c.if-span-total.true ∙ sym l)

pub returns-in_default : goal.returns-in_default
returns-in_default c = λ all e l. whole_short all _ (c.in-Ok.ensures all e l) (λ z. c.if-span-total.false (c.span.ensures ∙ z ∙ l))

pub returns-in_default-2 : goal.returns-in_default-2
returns-in_default-2 c = λ all e l. whole_stopped all _ (c.in_default.ensures all e l)
