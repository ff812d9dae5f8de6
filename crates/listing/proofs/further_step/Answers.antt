use Rattle.std.proofs.Common.{refl, sym, ap, ◌∙◌, arith, rules}
use Rattle.base.specs.Answers.{paper_at}
use Rattle.packetizer.specs.Call.{After}
use Rattle.listing.specs.Steps.{awaits, prints, counted, Writes}
use Rattle.listing.specs.Listing.{refused_text}
use Rattle.listing.specs.declared.Wait.TheVariants as wait
use Rattle.listing.proofs.Lines.{told_refused, told_counts, told_more, planned_filled}
use Rattle.listing.proofs.Turning.{wrote, by_case, ready_told}
use Rattle.listing.proofs.further_step.Goals as goal

pub returns-then-not-is_empty : goal.returns-then-not-is_empty
returns-then-not-is_empty c = let a = c.args in
    let w = c.bad_input.ensures in
    (by_case (told_more a.place a.got.now a.unit.now (search rules)) w, ready_told a.unit.now a.obus.now a.plan.now w tt)

pub returns-in-Err : goal.returns-in-Err
returns-in-Err c = let a = c.args in
    let e = sym (ap paper_at c.in-Err.is) ∙ ap (λ (x : After). x.answer) c.plan_unit.ensures in
    let w : Writes (prints a.place (refused_text _ _)) _ _ _ = wrote (awaits a.place wait.Nothing) _ _ 0 refl c.print.ensures.0 c.print.ensures.1 (rw c.number-number.ensures at c.put_two-end.ensures) (omega arith) in
    (by_case (told_refused a.place a.unit.now a.obus.now a.plan.now (omega arith) (omega arith) a.got.now (search rules) e) w, ready_told a.unit.now c.plan_unit.new.obus c.plan_unit.new.plan w tt)

pub returns-in-Ok : goal.returns-in-Ok
returns-in-Ok c = let a = c.args in
    let q = c.in-Ok.planned in
    let e = sym (ap paper_at c.in-Ok.is) ∙ ap (λ (x : After). x.answer) c.plan_unit.ensures in
    let w = wrote (counted a.place q.obus q.packets) _ _ 0 (told_counts a.place a.unit.now a.obus.now a.plan.now (omega arith) (omega arith) a.got.now (search rules) e) refl c.ask.ensures
    c.put_two-end-in-Ok.ensures (omega arith) in
    (w, rw (ap (λ (x : After). x.obus) c.plan_unit.ensures, ap (λ (x : After). x.plan) c.plan_unit.ensures) (planned_filled a.place a.unit.now a.obus.now a.plan.now q e c.requires))
