-- Payloads (Y1, Y5, P13, P16).
use Rattle.std.specs.Prelude.{◌≡◌, ℕ, ◌+◌, ◌≤◌, ◌<◌, List, [], length, get_or, take, drop}
use Rattle.base.specs.Lists.{joined}
use Rattle.leb128.specs.Field.{encode}
use Rattle.obu.specs.Unit.{unit_limit, obus_of}
use Rattle.obu.specs.Laws.{Bytes}
use Rattle.packetizer.specs.Call.{unit_plan}
use Rattle.packetizer.specs.Records.{no_packet}
use Rattle.packetizer.specs.Laws.{planned_bytes}
use Rattle.payloader.specs.Payload.{payload, payload_at, start_at, payloads_of}

-- Y1: payload k is that of record k
abbrev pub PayloadAt : Type 0
PayloadAt =
    (mtu : ℕ) (unit : List ℕ) (k : ℕ) → k < length (unit_plan mtu unit)
    → get_or (payloads_of mtu unit) k [] ≡ payload encode unit (obus_of unit) k (get_or (unit_plan mtu unit) k no_packet)

-- P13: it has a byte more than its packet size; 2 bytes at least, and at most as many as the mtu
abbrev pub PayloadSize : Type 0
PayloadSize =
    (mtu : ℕ) (unit : List ℕ) → length unit ≤ unit_limit → Bytes unit → (k : ℕ) → k < length (payloads_of mtu unit)
    → length (get_or (payloads_of mtu unit) k []) ≡ (get_or (unit_plan mtu unit) k no_packet).packet_size + 1

abbrev pub PayloadFits : Type 0
PayloadFits =
    (mtu : ℕ) (unit : List ℕ) → length unit ≤ unit_limit → Bytes unit → (k : ℕ) → k < length (payloads_of mtu unit)
    → (2 ≤ length (get_or (payloads_of mtu unit) k [])) × (length (get_or (payloads_of mtu unit) k []) ≤ mtu)

-- Y5: together they have as many bytes as the plan says
abbrev pub JoinedLength : Type 0
JoinedLength =
    (mtu : ℕ) (unit : List ℕ) → length unit ≤ unit_limit → Bytes unit
    → length (joined (payloads_of mtu unit)) ≡ planned_bytes (unit_plan mtu unit)

-- P16: payload k starts after those before it, and stands there in the output
abbrev pub StartIs : Type 0
StartIs =
    (mtu : ℕ) (unit : List ℕ) → length unit ≤ unit_limit → Bytes unit → (k : ℕ) → k < length (unit_plan mtu unit)
    → start_at mtu unit k ≡ length (joined (take k (payloads_of mtu unit)))

abbrev pub PayloadStands : Type 0
PayloadStands =
    (mtu : ℕ) (unit : List ℕ) → length unit ≤ unit_limit → Bytes unit → (k : ℕ) → k < length (unit_plan mtu unit)
    → take (length (payload_at mtu unit k)) (drop (start_at mtu unit k) (joined (payloads_of mtu unit))) ≡ payload_at mtu unit k
