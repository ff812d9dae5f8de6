use mathlib.Core.Path.{sym, ap, ◌∙◌}
use native.Mathlib.Omega.{arith}
use Rattle.element.specs.Paper.{walked}
use borrow.Author.Rules.{rules}
use Rattle.element.proofs.Laws.{payload_fits, header_bad, header_good}
use Rattle.element.proofs.walk_within.Goals as goal

pub returns-then-new_with_continuation : goal.returns-then-new_with_continuation
returns-then-new_with_continuation c = let l = c.args.payload.now in
    let h = sym (ap (walked c.args.k) (payload_fits l c.requires.1 ∙ header_bad l (λ z. omega (arith, c.requires.0)) _ c.new_with_continuation.ensures c.if-new_with_continuation.true)) in search rules

pub returns : goal.returns
returns c = let l = c.args.payload.now in
    c.walk_by_w.ensures
    ∙ sym
    (ap (walked c.args.k)
    (payload_fits l c.requires.1
    ∙ header_good l (λ z. omega (arith, c.requires.0)) _ c.new_with_continuation.ensures c.if-new_with_continuation.false _ c.header_w.ensures))
