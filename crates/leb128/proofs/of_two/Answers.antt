use mathlib.Core.Path.{ap}
use Prim.Native.Nat.{ℕ, ◌+◌, ◌*◌}
use lib.Dec.{ltb}
use Rattle.leb128.proofs.Writing.{low7}
use Rattle.leb128.proofs.of_two.Goals as goal

pub returns : goal.returns
returns c = let y = c.args.second in
    ap (λ (n : ℕ). record { value = n + 128 * y; used = 2; shortest = ltb 0 y }) (low7 c.args.first)
