-- What it is for crate and port to agree on a unit (D2): the statements.
--     SameUnits                 list, plan, headers but for N, payloads but for N and how a length is written
--     SamePlans, NeverSplits    the plan for any mtu and sizes of 32 bits; the branch that the port leaves out
--     SameLater                 whole header bytes, on every packet but packet 0: there alone N can differ
--     EqualPayloads             where no length is of 128 or more and N of packet 0 is the same, payloads are equal byte for byte
--     FieldsSame                a size field that we read
--     SentAllowed               all of these hold of accepted units (W15)
--     ListedSame, PlannedSame, SentSame   the same, by the answers of the list, plan and writing calls
use Rattle.std.specs.Prelude.{◌≡◌, ℕ, ◌+◌, ◌-◌, ◌≤◌, ◌<◌, List, map, Bool, false, length, get_or}
use Rattle.base.specs.Answers.{given}
use Rattle.leb128.specs.Field.{largest_value, sized, size_field}
use Rattle.obu.specs.Unit.{unit_limit, ended, scan_of, obus_of, list_answer}
use Rattle.obu.specs.Laws.{Bytes}
use Rattle.obu.specs.Wire as wire
use Rattle.obu.specs.declared.Obu.{Obu}
use Rattle.obu.specs.declared.Listed.{Listed}
use Rattle.packetizer.specs.Plan.{plan_of}
use Rattle.packetizer.specs.Call.{mtu_limit, unit_plan, to_plan, plan_answer}
use Rattle.packetizer.specs.Records.{no_packet}
use Rattle.packetizer.specs.declared.PacketMetadata.{PacketMetadata}
use Rattle.packetizer.specs.declared.Planned.{Planned}
use Rattle.aggregation.specs.New.{n_of}
use Rattle.aggregation.specs.Header.{header_of}
use Rattle.payloader.specs.Payload.{payloads_of}
use Rattle.payloader.specs.Call.{to_write, write_packet}
use Rattle.payloader.specs.declared.Written.{Written}
use Rattle.crate_laws.specs.Rust.{ok}
use Rattle.crate_laws.specs.Leb128.{read_leb128}
use Rattle.crate_laws.specs.Obu.{CrateObu, parse_obus}
use Rattle.crate_laws.specs.Packetizer.{CratePacket, packet, spread_over, splits_last, «packetize», get_aggregation_header}
use Rattle.crate_laws.specs.Payload.{payload}
use Rattle.crate_laws.specs.Pieces.{written_by, crate_new, crate_writer, our_writer, zyw_of, pieces_of, ShortPieces}

-- none of refusals 1 to 7 is given to mtu and unit; 8 and 9 are about what the caller lends, and 10, 11 and 31 about packet, output and
-- lists, and so an accepted unit (W15) is allowed
pub record Allowed (mtu : ℕ) (unit : List ℕ) : Type 0 where
  pub low : mtu ≤ mtu_limit
  pub short : length unit ≤ unit_limit
  pub whole : (scan_of unit).stop ≡ ended

-- an OBU of our list as the crate has it: the place of its payload replaced by the payload's bytes
abbrev pub as_crate : List ℕ → Obu → CrateObu
as_crate unit o =
    record { header = o.header; extension_header = o.extension; payload = wire.payload_of unit o; size = o.size }

abbrev pub crate_obus : List ℕ → List CrateObu
crate_obus unit = map (as_crate unit) (obus_of unit)

-- a packet of our plan as the crate has it: without the start of its payload
abbrev pub as_crate_packet : PacketMetadata → CratePacket
as_crate_packet p =
    packet p.first_obu_index p.num_obu_elements p.first_obu_offset p.last_obu_size p.packet_size

abbrev pub crate_packets : List PacketMetadata → List CratePacket
crate_packets packets = map as_crate_packet packets

-- ---- all but N

-- the header of packet k: Z, Y and W are the same, and each has its own N
pub record SameHeader (mtu : ℕ) (unit : List ℕ) (k : ℕ) : Type 0 where
  pub theirs :
      get_aggregation_header (crate_obus unit) (crate_packets (unit_plan mtu unit)) k
      ≡ ok (zyw_of (obus_of unit) (get_or (unit_plan mtu unit) k no_packet) + crate_new (crate_obus unit) k)
  pub ours :
      header_of unit (obus_of unit) (unit_plan mtu unit) k
      ≡ given (zyw_of (obus_of unit) (get_or (unit_plan mtu unit) k no_packet) + n_of unit (obus_of unit) k)

pub record Same (mtu : ℕ) (unit : List ℕ) : Type 0 where
  pub list : parse_obus unit ≡ ok (crate_obus unit)
  pub plan : «packetize» (crate_obus unit) mtu ≡ ok (crate_packets (unit_plan mtu unit))
  pub headers : (k : ℕ) → k < length (unit_plan mtu unit) → SameHeader mtu unit k
  -- the same pieces, written by the crate and by us
  pub payloads : payload mtu unit ≡ ok (map (written_by (crate_writer (crate_obus unit))) (pieces_of mtu unit))
  pub ours : payloads_of mtu unit ≡ map (written_by (our_writer unit (obus_of unit))) (pieces_of mtu unit)

abbrev pub SameUnits : Type 0
SameUnits = (mtu : ℕ) (unit : List ℕ) → Bytes unit → Allowed mtu unit → Same mtu unit

-- ---- the plan, beyond the limits of mtu and unit: up to where `as u32` leaves sizes as they are

abbrev pub crate_sizes : List CrateObu → List ℕ
crate_sizes obus = map (λ (o : CrateObu). o.size) obus

-- and each OBU has a byte at least
abbrev pub In32Bits : List ℕ → Type 0
In32Bits sizes = (j : ℕ) → j < length sizes → (1 ≤ get_or sizes j 0) × (get_or sizes j 0 ≤ largest_value)

abbrev pub SamePlans : Type 0
SamePlans =
    (obus : List CrateObu) (mtu : ℕ) → mtu ≤ largest_value → In32Bits (crate_sizes obus)
    → «packetize» obus mtu ≡ ok (crate_packets (plan_of mtu (crate_sizes obus)))

-- the branch that splits a last fragment is never entered, whatever fragment came first (P11)
abbrev pub NeverSplits : Type 0
NeverSplits =
    (is_last : Bool) (room i s first : ℕ) (packets : List CratePacket) → 1 ≤ room
    → splits_last is_last room (s - (spread_over room i s packets first).offset) ≡ false

-- ---- N

-- one byte, which both give on each packet after packet 0
abbrev pub SameLater : Type 0
SameLater =
    (mtu : ℕ) (unit : List ℕ) → Bytes unit → Allowed mtu unit → (k : ℕ) → 1 ≤ k → k < length (unit_plan mtu unit)
    → (h : ℕ) × (get_aggregation_header (crate_obus unit) (crate_packets (unit_plan mtu unit)) k ≡ ok h) × (header_of unit (obus_of unit) (unit_plan mtu unit) k ≡ given h)

-- on packet 0 N is the same in both
abbrev pub NewAgrees : List ℕ → Type 0
NewAgrees unit = crate_new (crate_obus unit) 0 ≡ n_of unit (obus_of unit) 0

abbrev pub EqualPayloads : Type 0
EqualPayloads =
    (mtu : ℕ) (unit : List ℕ) → Bytes unit → Allowed mtu unit → ShortPieces (pieces_of mtu unit) → NewAgrees unit
    → payload mtu unit ≡ ok (payloads_of mtu unit)

-- ---- size fields: (value, bytes taken)

abbrev pub FieldsSame : Type 0
FieldsSame = (l : List ℕ) (v n : ℕ) → Bytes l → size_field l ≡ sized v n → read_leb128 l ≡ (v, n)

-- ---- by what the calls answer: with numbers, and not with a refusal

abbrev pub SentAllowed : Type 0
SentAllowed =
    (mtu k : ℕ) (unit obus plan out : List ℕ) (w : Written) → (write_packet k (to_write mtu unit obus plan out)).answer ≡ given w
    → Allowed mtu unit

abbrev pub ListedSame : Type 0
ListedSame =
    (unit obus : List ℕ) (l : Listed) → Bytes unit → list_answer unit obus ≡ given l → parse_obus unit ≡ ok (crate_obus unit)

abbrev pub PlannedSame : Type 0
PlannedSame =
    (mtu : ℕ) (unit obus plan : List ℕ) (p : Planned) → Bytes unit → plan_answer (to_plan mtu unit obus plan) ≡ given p → Same mtu unit

abbrev pub SentSame : Type 0
SentSame =
    (mtu k : ℕ) (unit obus plan out : List ℕ) (w : Written) → Bytes unit
    → (write_packet k (to_write mtu unit obus plan out)).answer ≡ given w → Same mtu unit
