-- The records that the program runs the header call on, and what it expects of a unit.
use Rattle.std.specs.Prelude.{ℕ, ◌+◌, List, [], ◌∷◌}
use Rattle.base.specs.Answers.{Answer, given, refused}
use Rattle.obu.specs.Records.{obus_in}
use Rattle.obu.specs.declared.Obu.{Obu}
use Rattle.packetizer.specs.Records.{packets_in}
use Rattle.packetizer.specs.declared.PacketMetadata.{PacketMetadata}
use Rattle.aggregation.specs.Header.{header_of}

abbrev pub obu_of : ℕ → ℕ → ℕ → ℕ → Obu
obu_of header start length size = record { header = header; extension = 0; start = start; length = length; size = size }

abbrev pub packet_of : ℕ → ℕ → ℕ → ℕ → ℕ → PacketMetadata
packet_of first elements offset last start =
    record {
      first_obu_index = first;
      num_obu_elements = elements;
      first_obu_offset = offset;
      last_obu_size = last;
      packet_size = 0;
      payload_start = start;
    }

abbrev pub obus : List Obu
obus = obu_of 10 0 1 4 ∷ obu_of 50 1 1 6 ∷ obu_of 50 2 0 1 ∷ obu_of 50 0 2 1 ∷ []

abbrev pub packets : List PacketMetadata
packets =
    packet_of 0 1 0 2 4294967294 ∷ packet_of 0 1 2 2 0 ∷ packet_of 1 1 2 2 0 ∷ packet_of 0 2 3 4 0 ∷ packet_of 0 4 0 1 0 ∷ packet_of 3 2 0 1 0 ∷ packet_of 0 0 0 1 0 ∷ packet_of 0 1 0 2 4294967295 ∷ []

-- the same as numbers: the first header has a bit above its byte, and one more OBU is not finished
abbrev pub obu_numbers : List ℕ
obu_numbers = 266 ∷ 0 ∷ 0 ∷ 1 ∷ 4 ∷ 50 ∷ 0 ∷ 1 ∷ 1 ∷ 6 ∷ 50 ∷ 0 ∷ 2 ∷ 0 ∷ 1 ∷ 50 ∷ 0 ∷ 0 ∷ 2 ∷ 1 ∷ 50 ∷ 0 ∷ 0 ∷ 0 ∷ []

abbrev pub packet_numbers : List ℕ
packet_numbers =
    0 ∷ 1 ∷ 0 ∷ 2 ∷ 0 ∷ 4294967294 ∷ 0 ∷ 1 ∷ 2 ∷ 2 ∷ 0 ∷ 0 ∷ 1 ∷ 1 ∷ 2 ∷ 2 ∷ 0 ∷ 0 ∷ 0 ∷ 2 ∷ 3 ∷ 4 ∷ 0 ∷ 0 ∷ 0 ∷ 4 ∷ 0 ∷ 1 ∷ 0 ∷ 0 ∷ 3 ∷ 2 ∷ 0 ∷ 1 ∷ 0 ∷ 0 ∷ 0 ∷ 0 ∷ 0 ∷ 1 ∷ 0 ∷ 0 ∷ 0 ∷ 1 ∷ 0 ∷ 2 ∷ 0 ∷ 4294967295 ∷ []

-- the byte, or 256 plus the number of the refusal
abbrev pub code_of : Answer ℕ → ℕ
code_of (given b) = b
code_of (refused n at) = 256 + n

-- by what is lent as the unit
unfoldable pub of_records : List ℕ → ℕ → ℕ
of_records unit k = code_of (header_of unit obus packets k)

unfoldable pub of_numbers : List ℕ → ℕ → ℕ
of_numbers unit k = code_of (header_of unit (obus_in obu_numbers) (packets_in packet_numbers) k)
