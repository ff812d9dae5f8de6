use mathlib.Core.Path.{sym, ◌∙◌}
use native.Mathlib.Omega.{arith}
use Rattle.packetizer.proofs.Fragments.{field_most}
use Rattle.packetizer.proofs.Steps.{charge_none, charge_paid, charge_last}
use Rattle.packetizer.proofs.packet.additional_bytes_for_previous_obu_element.Goals as goal

pub overflow_cast-result : goal.overflow_cast-result
overflow_cast-result c = omega (arith, c.leb128_size.ensures, field_most c.args.p.last_obu_size)

pub returns-in-1-to-3 : goal.returns-in-1-to-3
returns-in-1-to-3 c = c.leb128_size.ensures ∙ sym (charge_last c.args.p (λ e. absurd (omega arith)) (omega arith))

pub returns-in_default : goal.returns-in_default
returns-in_default c = sym (charge_none c.args.p (omega arith))

pub returns-in_default-2 : goal.returns-in_default-2
returns-in_default-2 c = sym (charge_paid c.args.p (λ e. absurd (omega arith)) (omega arith))
