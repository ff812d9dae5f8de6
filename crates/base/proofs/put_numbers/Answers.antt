use Rattle.std.proofs.Common.{ℕ, ◌+◌, List, get_or, zero-add, ap, ◌∙◌, arith}
use lib.ListN.{set}
use lib.Seq.{sets, take_all}
use Rattle.base.proofs.Lists.{copy_more}
use Rattle.base.proofs.put_numbers.Goals as goal

pub loop-i-preserved : goal.loop-i-preserved
loop-i-preserved c = let a = c.args in
    let l = c.loop-i in
    ap (λ (m : List ℕ). set m (a.at + l.i) (get_or a.numbers.now l.i 0)) l.invariant
    ∙ rw zero-add at (copy_more a.list.now a.numbers.now a.at 0 l.i 0 (omega arith))

pub returns : goal.returns
returns c = let a = c.args in
    c.loop-i.invariant ∙ ap (sets a.list.now a.at) (take_all c.loop-i.i a.numbers.now (omega arith))
