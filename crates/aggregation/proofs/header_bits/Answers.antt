use mathlib.Core.Path.{ap, ◌∙◌}
use Prim.Native.Nat.{ℕ}
use mathlib.Core.Bool.{Bool, cond}
use Rattle.aggregation.specs.New.{n_of}
use Rattle.aggregation.proofs.Laws.{or_byte}
use Rattle.aggregation.proofs.header_bits.Goals as goal

pub returns : goal.returns
unfolding n_of
returns c = λ unit obus k s new.
    let a = c.args in
    let e = c.n_bit.ensures ∙ ap (λ (b : Bool). cond {A = ℕ} b 8 0) new in
    cc (or_byte unit obus a.p k)
