use mathlib.Core.Path.{sym, ◌∙◌}
use native.Mathlib.Omega.{arith}
use borrow.Author.Tests.{eqb-true, eqb-false}
use Rattle.obu.specs.Header.{extension_bit}
use Rattle.obu.proofs.Wires.{header_one, header_two}
use Rattle.obu.proofs.put_header.Goals as goal

pub returns-then-obu_has_extension : goal.returns-then-obu_has_extension
returns-then-obu_has_extension c =
    let a = c.args in
    let with = eqb-true (extension_bit a.header) 1 (sym c.obu_has_extension.ensures ∙ c.if-obu_has_extension.true) in
    (omega arith, header_two a.out.now a.at a.header a.extension _ c.with_size_bit.ensures c.requires with)

pub returns : goal.returns
returns c =
    let a = c.args in
    let without = eqb-false (extension_bit a.header) 1 (sym c.obu_has_extension.ensures ∙ c.if-obu_has_extension.false) in
    (omega arith, header_one a.out.now a.at a.header a.extension _ c.with_size_bit.ensures c.requires (omega arith))
