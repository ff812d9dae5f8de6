use Rattle.std.proofs.Common.{ℕ, ap, ◌∙◌, arith}
use Rattle.base.specs.BigEndian.{value_at}
use Rattle.train.specs.Train.{number_width}
use Rattle.packing.proofs.Reading.{mtu_within, head_cut, head_found}
use Rattle.packing.proofs.input.read_head.Goals as goal

pub overflow_add-width : goal.overflow_add-width
overflow_add-width c = omega (arith, c.mtu_width-width.ensures, mtu_within c.args.version)

pub returns-then-bytes-width : goal.returns-then-bytes-width
returns-then-bytes-width c = head_cut c.args.version c.args.bytes.now (omega (arith, c.mtu_width-width.ensures, c.if-bytes-width.true))

pub number_at-mtu-requires : goal.number_at-mtu-requires
number_at-mtu-requires c = record { there = omega arith; short = omega (arith, c.mtu_width-width.ensures, mtu_within c.args.version) }

pub returns : goal.returns
returns c = let a = c.args in
    let l = a.bytes.now in
    head_found a.version l _ _ (omega (arith, c.mtu_width-width.ensures, c.if-bytes-width.false))
    (c.number_at-mtu.ensures.is ∙ ap (value_at l 0) c.mtu_width-width.ensures)
    (c.number_at-first.ensures.is ∙ ap (λ (n : ℕ). value_at l n number_width) c.mtu_width-width.ensures)
