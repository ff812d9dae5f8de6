use Rattle.std.proofs.Common.{take, refl}
use Rattle.listing.specs.Input.{head_of}
use Rattle.listing.specs.declared.Wait.TheVariants as wait
use Rattle.listing.proofs.Turning.{came_few, ready_at, ready_told, ready_head, ready_unit, ready_row, stepped}
use Rattle.listing.proofs.step.Goals as goal

pub returns-in-Head : goal.returns-in-Head
returns-in-Head c = let a = c.args in
    let t = c.head_step.ensures in
    stepped a.place a.came _ wait.Head a.input.now a.unit.now a.line.now a.obus.now a.plan.now c.in-Ok.is c.in-Head.is t refl
    (ready_told a.unit.now a.obus.now a.plan.now t (ready_head a.unit.now a.obus.now a.plan.now a.place (head_of (take c.in-Ok.n a.input.now))))

pub returns-in-Unit : goal.returns-in-Unit
returns-in-Unit c = let a = c.args in
    let t = c.unit_step.ensures in
    let unit = c.unit_step.new.unit in
    stepped a.place a.came _ wait.Unit a.input.now a.unit.now a.line.now a.obus.now a.plan.now c.in-Ok.is c.in-Unit.is t.0 t.1
    (ready_told unit a.obus.now a.plan.now t.0 (ready_unit unit a.obus.now a.plan.now a.place (take c.in-Ok.n a.input.now) (came_few c.requires c.in-Ok.is)))

pub returns-in-Further : goal.returns-in-Further
returns-in-Further c = let a = c.args in
    let t = c.further_step.ensures in
    stepped a.place a.came _ wait.Further a.input.now a.unit.now a.line.now _ _ c.in-Ok.is c.in-Further.is t.0 refl t.1

pub returns-in-Row : goal.returns-in-Row
returns-in-Row c = let a = c.args in
    let f = ready_at a.place a.unit.now a.obus.now a.plan.now c.in-Row.is c.requires.ready in
    let t = c.row_step.ensures in
    stepped a.place a.came _ (wait.Row _) a.input.now a.unit.now a.line.now a.obus.now a.plan.now c.in-Ok.is c.in-Row.is t refl
    (ready_told a.unit.now a.obus.now a.plan.now t (ready_row a.unit.now a.obus.now a.plan.now a.place _ f))
