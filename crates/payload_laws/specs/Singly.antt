-- Packets written apart from planning, one at a time or in runs: the statements (R1 to R7, R31, R11, R10, C7, C10, Y5).
--     SingleWritten   a packet that is there, written after the plan call: the answer, and the output
--     OneByOne        all packets, each into a buffer of its own, in any order: together they are what one call for the whole unit would write
--     RunWritten      a run of packets is what the single calls write, one after the other
--     WholeWritten    the run of all packets is what one call for the whole unit would write
--     WholeAnswered   and is refused as that would be
--     WriteRefusals   which refusals the writing calls give: never 8 or 9
--     RefusalKeeps    a refusal writes nothing
use Rattle.std.specs.Prelude.{◌≡◌, ℕ, zero, suc, ◌+◌, ◌≤◌, ◌<◌, ◌⊎◌, Bool, true, false, ◌||◌, List, [], ◌∷◌, map, length, get_or, take, drop, set, eqb}
use Rattle.base.specs.Answers.{Answer, given, refused}
use Rattle.base.specs.Lists.{front, joined}
use Rattle.packetizer.specs.Call.{to_plan, plan_unit}
use Rattle.packetizer.specs.declared.Planned.{Planned}
use Rattle.payloader.specs.Payload.{payload_at, payloads_of}
use Rattle.payloader.specs.Call.{Inputs, to_write, leaves, write_packet, write_packets}
use Rattle.payloader.specs.declared.Written.{Written}
use Rattle.payload_laws.specs.Whole.{Payloads, whole_unit}

-- ---- the calls

-- what a writing call is given after the plan call: the two lists as that left them, and an output
abbrev pub after_plan : ℕ → List ℕ → List ℕ → List ℕ → List ℕ → Inputs
after_plan mtu unit obus plan out =
    to_write mtu unit (plan_unit (to_plan mtu unit obus plan)).obus (plan_unit (to_plan mtu unit obus plan)).plan out

-- the buffers after a call for each of these packets, one call after the other, each into the buffer of its packet. `lend out` is what a call
-- is given, with the output `out`. The call for a packet that is not there has no buffer, and is refused
unfoldable pub written_into : (List ℕ → Inputs) → List ℕ → List (List ℕ) → List (List ℕ)
written_into lend [] buffers = buffers
written_into lend (k ∷ order) buffers = written_into lend order (set buffers k (write_packet k (lend (get_or buffers k []))).out)

-- ---- the packets that are written, and the buffers

-- whether packet k is among these
unfoldable pub among : ℕ → List ℕ → Bool
among k [] = false
among k (a ∷ order) = eqb a k || among k order

-- each of n packets is among them, in whatever order, and however often
abbrev pub Covers : List ℕ → ℕ → Type 0
Covers order n = (k : ℕ) → k < n → among k order ≡ true

-- so many packets from one on, in order
unfoldable pub run_of : ℕ → ℕ → List ℕ
run_of first zero = []
run_of first (suc count) = first ∷ run_of (first + 1) count

-- the buffers of a run after the single calls for its packets, one after the other
abbrev pub run_into : (List ℕ → Inputs) → ℕ → ℕ → List (List ℕ) → List ℕ
run_into lend first count buffers = joined (take count (drop first (written_into lend (run_of first count) buffers)))

-- as many buffers as there are packets, each as long as its packet's payload, whatever it holds
abbrev pub JustHold : ℕ → List ℕ → List (List ℕ) → Type 0
JustHold mtu unit buffers = map length buffers ≡ map length (payloads_of mtu unit)

-- ---- the statements

-- the plan call gives p, packet k is one of its packets, and the output has the space: the answer is the payload's length, and the payload
-- stands first in the output; the rest of it is as it was
abbrev pub SingleWritten : Type 0
SingleWritten =
    (mtu : ℕ) (unit obus plan : List ℕ) (p : Planned) → given p ≡ (plan_unit (to_plan mtu unit obus plan)).answer
    → (k : ℕ) → k < p.packets
    → (out : List ℕ) → length (payload_at mtu unit k) ≤ length out
    → write_packet k (after_plan mtu unit obus plan out)
    ≡ leaves (given (record { bytes = length (payload_at mtu unit k) })) (front (payload_at mtu unit k) out)

-- one call for the whole unit gives p: after the plan call, with a buffer for each packet, the single calls write the same bytes, in whatever
-- order the packets are asked for, and however often
abbrev pub OneByOne : Type 0
OneByOne =
    (mtu : ℕ) (unit obus plan out : List ℕ) (p : Payloads) → given p ≡ (whole_unit (to_plan mtu unit obus plan) out).answer
    → (order : List ℕ) → Covers order p.packets
    → (buffers : List (List ℕ)) → JustHold mtu unit buffers
    → joined (written_into (after_plan mtu unit obus plan) order buffers) ≡ take p.bytes (whole_unit (to_plan mtu unit obus plan) out).out

-- a run is written, with whatever lists: what the single calls for its packets write with these lists stands first in the output, one after
-- the other, and the answer is its length; the rest of the output is as it was
abbrev pub RunWritten : Type 0
RunWritten =
    (mtu : ℕ) (unit obus plan out : List ℕ) (first count : ℕ) (w : Written)
    → given w ≡ (write_packets first count (to_write mtu unit obus plan out)).answer
    → (buffers : List (List ℕ)) → JustHold mtu unit buffers
    → write_packets first count (to_write mtu unit obus plan out)
    ≡ leaves (given (record { bytes = length (run_into (to_write mtu unit obus plan) first count buffers) }))
    (front (run_into (to_write mtu unit obus plan) first count buffers) out)

-- one call for the whole unit gives p: after the plan call, the run of all packets answers as many bytes and leaves the same output
abbrev pub WholeWritten : Type 0
WholeWritten =
    (mtu : ℕ) (unit obus plan out : List ℕ) (p : Payloads) → given p ≡ (whole_unit (to_plan mtu unit obus plan) out).answer
    → write_packets 0 p.packets (after_plan mtu unit obus plan out)
    ≡ leaves (given (record { bytes = p.bytes })) (whole_unit (to_plan mtu unit obus plan) out).out

-- of what one call for a whole unit answers, the bytes alone
abbrev pub bytes_only : Answer Payloads → Answer Written
bytes_only (given p) = given (record { bytes = p.bytes })
bytes_only (refused n at) = refused n at

-- the plan call gives p: the run of all packets answers as one call for the whole unit would, refusal 10 included, and leaves the same output.
-- Where the plan call refuses, the one call does, with the same refusal (`with_space`)
abbrev pub WholeAnswered : Type 0
WholeAnswered =
    (mtu : ℕ) (unit obus plan out : List ℕ) (p : Planned) → given p ≡ (plan_unit (to_plan mtu unit obus plan)).answer
    → write_packets 0 p.packets (after_plan mtu unit obus plan out)
    ≡ leaves (bytes_only (whole_unit (to_plan mtu unit obus plan) out).answer) (whole_unit (to_plan mtu unit obus plan) out).out

-- a number that a writing call refuses with: 1 to 7, 31, 11 or 10. So it is neither 8 nor 9, which say that a lent list has too little space:
-- no list is stored here
abbrev pub OfWriting : ℕ → Type 0
OfWriting n = ((n ≤ 7) ⊎ (n ≡ 31) ⊎ (n ≡ 11) ⊎ (n ≡ 10)) × (n ≡ 8 → ⊥) × (n ≡ 9 → ⊥)

-- whatever is lent, for one packet and for a run
abbrev pub WriteRefusals : Type 0
WriteRefusals =
    (i : Inputs) (n at : ℕ)
    → ((k : ℕ) → refused n at ≡ (write_packet k i).answer → OfWriting n)
    × ((first count : ℕ) → refused n at ≡ (write_packets first count i).answer → OfWriting n)

-- and then the output is as it was
abbrev pub RefusalKeeps : Type 0
RefusalKeeps =
    (i : Inputs) (n at : ℕ)
    → ((k : ℕ) → refused n at ≡ (write_packet k i).answer → (write_packet k i).out ≡ i.out)
    × ((first count : ℕ) → refused n at ≡ (write_packets first count i).answer → (write_packets first count i).out ≡ i.out)
