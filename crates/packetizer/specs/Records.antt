-- The records of a plan in a flat list of numbers (L16, P2, P15).
use Rattle.std.specs.Prelude.{ℕ, get_or}
use mathlib.Core.List.{List, [], ◌∷◌, flat_map}
use Rattle.base.specs.Records.{records_in}
use Rattle.packetizer.specs.Plan.{new_packet}
use Rattle.packetizer.specs.declared.PacketMetadata.{PacketMetadata}

abbrev pub plan_numbers : ℕ
plan_numbers = 6

-- the numbers of a record, and of a plan
abbrev pub record_numbers : PacketMetadata → List ℕ
record_numbers p =
    p.first_obu_index
    ∷ p.num_obu_elements
    ∷ p.first_obu_offset
    ∷ p.last_obu_size
    ∷ p.packet_size
    ∷ p.payload_start
    ∷ []

abbrev pub flat_plan : List PacketMetadata → List ℕ
flat_plan ps = flat_map record_numbers ps

-- the record at the front of some numbers, and all whole records
abbrev pub packet_record : List ℕ → PacketMetadata
packet_record l =
    record {
      first_obu_index = get_or l 0 0;
      num_obu_elements = get_or l 1 0;
      first_obu_offset = get_or l 2 0;
      last_obu_size = get_or l 3 0;
      packet_size = get_or l 4 0;
      payload_start = get_or l 5 0;
    }

abbrev pub packets_in : List ℕ → List PacketMetadata
packets_in l = records_in plan_numbers packet_record l

-- what stands past the end of a list
abbrev pub no_packet : PacketMetadata
no_packet = new_packet 0 0
