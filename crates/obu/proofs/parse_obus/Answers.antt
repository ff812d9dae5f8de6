use mathlib.Core.Path.{sym, ap, ◌∙◌}
use Prim.Native.Nat.{◌/◌}
use native.Mathlib.Omega.{arith}
use lib.ListN.{length}
use Rattle.base.specs.Answers.{Answer, stored}
use Rattle.obu.specs.Unit.{obus_of}
use Rattle.obu.specs.Records.{flat, obu_numbers}
use Rattle.obu.specs.declared.Listed.{Listed}
use Rattle.obu.proofs.Scans.{listed_large, given_listed}
use Rattle.obu.proofs.parse_obus.Goals as goal

pub returns-then-unit-gt-UNIT_LIMIT : goal.returns-then-unit-gt-UNIT_LIMIT
returns-then-unit-gt-UNIT_LIMIT c =
    let a = c.args in
    let e = sym (listed_large a.unit.now (length a.obus.now / obu_numbers) c.if-unit-gt-UNIT_LIMIT.true) in
    (rw c.into.ensures e, ap (λ (x : Answer Listed). stored x (flat (obus_of a.unit.now)) a.obus.now) e)

pub store_obus-requires : goal.store_obus-requires
store_obus-requires c =
    let g = given_listed c.args.unit.now (length c.args.obus.now / obu_numbers) c.in_ok-listed.ensures in
    (g.0, g.1, omega (arith, g.3))

pub returns : goal.returns
returns c =
    let a = c.args in
    (c.in_ok-listed.ensures, c.store_obus.ensures ∙ ap (λ (x : Answer Listed). stored x (flat (obus_of a.unit.now)) a.obus.now) c.in_ok-listed.ensures)
