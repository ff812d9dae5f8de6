use native.Mathlib.Omega.{arith}
use Rattle.packetizer.proofs.Steps.{charge_most}
use Rattle.packetizer.proofs.packet.charge.Goals as goal

pub overflow_add-result : goal.overflow_add-result
overflow_add-result c = omega (arith, c.additional_bytes_for_previous_obu_element.ensures, charge_most c.args.p)
