use mathlib.Core.Path.{ap, ◌∙◌}
use Prim.Native.Nat.{ℕ, ◌/◌}
use native.Mathlib.Omega.{arith}
use lib.Bits.{and_high}
use Rattle.obu.proofs.obu_type.Goals as goal

pub returns : goal.returns
returns c = ap (λ (x : ℕ). x / 8) (and_high c.args.header 4 3) ∙ omega arith
