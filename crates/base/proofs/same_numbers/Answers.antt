use Rattle.std.proofs.Common.{ap, ◌∙◌}
use Rattle.base.specs.Lists.{is_front}
use Rattle.base.proofs.Lists.{part_min}
use Rattle.base.proofs.Fronts.{starts_front}
use Rattle.base.proofs.same_numbers.Goals as goal

pub returns : goal.returns
returns c = let a = c.args in
    c.starts_with.ensures.value ∙ starts_front _ a.numbers.now ∙ ap (is_front a.numbers.now) (part_min a.list.now a.at _ c.min.ensures)
