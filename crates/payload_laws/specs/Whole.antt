-- A unit listed, planned and written by one call, as the crate does it: what that would answer and leave (R1 to R10, C5 to C7).
use Rattle.std.specs.Prelude.{ℕ, List, cond, length, ltb}
use Rattle.base.specs.Answers.{Answer, given, refused, stored}
use Rattle.packetizer.specs.Call.{Inputs, plan_answer, plan_unit}
use Rattle.packetizer.specs.declared.Planned.{Planned}
use Rattle.payloader.specs.Payload.{unit_bytes}

-- how many OBUs, packets and bytes
pub record Payloads : Type 0 where
  pub obus : ℕ
  pub packets : ℕ
  pub bytes : ℕ

-- its answer, and the two lists and the output afterwards
pub record After : Type 0 where
  pub answer : Answer Payloads
  pub obus : List ℕ
  pub plan : List ℕ
  pub out : List ℕ

-- by what the plan call answers, with space for so many bytes: 10, if the payloads together need more
abbrev pub with_space : List ℕ → ℕ → Answer Planned → Answer Payloads
with_space bytes space (given p) =
    cond (ltb space (length bytes)) (refused 10 0) (given (record { obus = p.obus; packets = p.packets; bytes = length bytes }))
with_space bytes space (refused n at) = refused n at

unfoldable pub whole_answer : Inputs → List ℕ → Answer Payloads
whole_answer i out = with_space (unit_bytes i.mtu i.unit) (length out) (plan_answer i)

-- the lists are left as by the plan call, and the payloads stand first in the output, one after the other
abbrev pub whole_unit : Inputs → List ℕ → After
whole_unit i out =
    record {
      answer = whole_answer i out;
      obus = (plan_unit i).obus;
      plan = (plan_unit i).plan;
      out = stored (whole_answer i out) (unit_bytes i.mtu i.unit) out;
    }
