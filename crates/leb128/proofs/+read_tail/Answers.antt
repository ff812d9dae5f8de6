use Rattle.std.proofs.Common.{ℕ, ◌+◌, ◌*◌, sym, ap, ◌∙◌, arith, get_or}
use lib.Bits.{and_le_r}
use Rattle.std.proofs.lemmas.Result.{err_from_is_err_and}
use Rattle.base.specs.Refusals.{number_of}
use Rattle.leb128.specs.Field.{sized, unreadable, field_in}
use Rattle.leb128.proofs.Reading.{field_none, field_last, field_after, rest_small}
use Rattle.leb128.proofs.Writing.{low7}
use Rattle.leb128.proofs.+read_tail.Goals as goal

pub returns-then-left-eq0 : goal.returns-then-left-eq0
unfolding field_in
returns-then-left-eq0 t c = rw c.if-left-eq0.true

pub overflow_mul-result : goal.overflow_mul-result
overflow_mul-result t c =
    let h = rest_small c.args.left _ c.in_ok-tail.tail.value c.in_ok-tail.tail.used c.requires c.if-left-eq0.false c.in_ok-tail.ensures in
    omega arith

pub overflow_add-result : goal.overflow_add-result
overflow_add-result t c =
    let h = rest_small c.args.left _ c.in_ok-tail.tail.value c.in_ok-tail.tail.used c.requires c.if-left-eq0.false c.in_ok-tail.ensures in
    omega (arith, and_le_r)

pub overflow_add-result-2 : goal.overflow_add-result-2
overflow_add-result-2 t c =
    let h = rest_small c.args.left _ c.in_ok-tail.tail.value c.in_ok-tail.tail.used c.requires c.if-left-eq0.false c.in_ok-tail.ensures in
    omega arith

pub returns-in_default : goal.returns-in_default
returns-in_default t c = sym (field_none c.args.left c.args.bytes.now c.if-left-eq0.false (omega (arith, c.in_default.len_below)))

pub returns-then-first-lt128 : goal.returns-then-first-lt128
returns-then-first-lt128 t c =
    ap (λ (x : ℕ). sized x 1) (low7 (get_or c.args.bytes.now 0 0))
    ∙ sym (field_last c.args.left c.args.bytes.now c.if-left-eq0.false (λ z. omega (arith, c.in-len1-up.len_at_least)) c.if-first-lt128.true)

pub returns : goal.returns
returns t c =
    ap (λ (x : ℕ). sized (x + 128 * c.in_ok-tail.tail.value) (c.in_ok-tail.tail.used + 1)) (low7 (get_or c.args.bytes.now 0 0))
    ∙ field_after c.args.left c.args.bytes.now (sized c.in_ok-tail.tail.value c.in_ok-tail.tail.used) c.if-left-eq0.false (λ z. omega (arith, c.in-len1-up.len_at_least)) c.if-first-lt128.false c.in_ok-tail.ensures

pub returns-in_err-tail : goal.returns-in_err-tail
returns-in_err-tail t c =
    let p = err_from_is_err_and c.from_residual.result c.from_residual.ensures.1 in
    rw (p.1, p.2) (field_after c.args.left c.args.bytes.now (unreadable (number_of c.in_err-tail.field-0.0)) c.if-left-eq0.false (λ z. omega (arith, c.in-len1-up.len_at_least)) c.if-first-lt128.false c.in_err-tail.ensures)
