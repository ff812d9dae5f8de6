use Rattle.std.proofs.Common.{◌∙◌, rules}
use Rattle.turns.specs.Text.{most_digits}
use Rattle.turns.proofs.Digits.{digits_are, digits_most}
use Rattle.turns.proofs.put_decimal.Goals as goal

pub returns : goal.returns
returns c = let a = c.args in
    let f = c.decimal-digits.ensures.len in
    let e = c.decimal-digits.ensures.digits ∙ digits_are most_digits c.decimal-digits.result a.n f (digits_most a.n _ (search rules) f) in
    rw e at c.put_text.ensures
