use native.Mathlib.Omega.{arith}
use Rattle.packetizer.proofs.Steps.{need_bounds}
use Rattle.packetizer.proofs.packet.with_element.Goals as goal

pub overflow_add-result-2 : goal.overflow_add-result-2
overflow_add-result-2 c = let a = c.args in omega (arith, c.requires, need_bounds a.p a.n)
