-- The calls that write packets: their answer, and what they leave in the output (R1 to R7, R31, R11, R10, C2, C7, C10).
use Rattle.std.specs.Prelude.{ℕ, ◌-◌, List, Bool, cond, length, take, drop, ltb, leb}
use Rattle.base.specs.Lists.{joined}
use Rattle.base.specs.Answers.{Answer, given, refused, stored}
use Rattle.packetizer.specs.Call.{same_plan}
use Rattle.packetizer.specs.declared.Planned.{Planned}
use Rattle.payloader.specs.Payload.{payload_at, payloads_of}
use Rattle.payloader.specs.declared.Written.{Written}

-- these bytes are written, if the packets are there and the space is enough; by what comparing the lists answers
abbrev pub written : (ℕ → Bool) → List ℕ → ℕ → Answer Planned → Answer Written
written there bytes space (given p) =
    cond (there p.packets) (cond (ltb space (length bytes)) (refused 10 0) (given (record { bytes = length bytes }))) (refused 11 0)
written there bytes space (refused n at) = refused n at

-- ---- what a call is given besides the packets that it writes, and what comes of it: its answer, and the output afterwards

pub record Inputs : Type 0 where
  pub mtu : ℕ
  pub unit : List ℕ
  pub obus : List ℕ
  pub plan : List ℕ
  pub out : List ℕ

pub record After : Type 0 where
  pub answer : Answer Written
  pub out : List ℕ

abbrev pub to_write : ℕ → List ℕ → List ℕ → List ℕ → List ℕ → Inputs
to_write mtu unit obus plan out = record { mtu = mtu; unit = unit; obus = obus; plan = plan; out = out }

abbrev pub leaves : Answer Written → List ℕ → After
leaves answer out = record { answer = answer; out = out }

unfoldable pub answer_for : (ℕ → Bool) → List ℕ → Inputs → Answer Written
answer_for there bytes i = written there bytes (length i.out) (same_plan i.mtu i.unit i.obus i.plan)

abbrev pub writes : (ℕ → Bool) → List ℕ → Inputs → After
writes there bytes i = leaves (answer_for there bytes i) (stored (answer_for there bytes i) bytes i.out)

-- packet k alone
abbrev pub write_packet : ℕ → Inputs → After
write_packet k i = writes (ltb k) (payload_at i.mtu i.unit k) i

-- so many packets from one on, one after the other: none is missing if so many are left
abbrev pub packets_from : ℕ → ℕ → Inputs → List (List ℕ)
packets_from first count i = take count (drop first (payloads_of i.mtu i.unit))

abbrev pub write_packets : ℕ → ℕ → Inputs → After
write_packets first count i = writes (λ packets. leb count (packets - first)) (joined (packets_from first count i)) i
