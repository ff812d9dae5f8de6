-- A line of the listing (G10).
use Rattle.std.specs.Prelude.{ℕ, ◌+◌, ◌/◌, ◌%◌, cond, get_or, ltb}
use mathlib.Core.List.{List, [], ◌∷◌, ◌++◌, flat_map}
use Rattle.base.specs.Words.{ascii}
use Rattle.obu.specs.declared.Obu.{Obu}
use Rattle.packetizer.specs.Records.{no_packet}
use Rattle.packetizer.specs.declared.PacketMetadata.{PacketMetadata}
use Rattle.aggregation.specs.Header.{byte_of}
use Rattle.turns.specs.Text.{decimal, labelled}
use Rattle.listing.specs.declared.Row.{Row}

abbrev pub row_by : List ℕ → List Obu → PacketMetadata → ℕ → Row
row_by unit obus p k =
    record {
      packet = k;
      first_obu = p.first_obu_index;
      elements = p.num_obu_elements;
      first_offset = p.first_obu_offset;
      last_size = p.last_obu_size;
      packet_size = p.packet_size;
      header = byte_of unit obus p k;
      start = p.payload_start;
    }

-- the line of packet k
abbrev pub row_of : List ℕ → List Obu → List PacketMetadata → ℕ → Row
row_of unit obus packets k = row_by unit obus (get_or packets k no_packet) k

-- a hexadecimal digit, in capitals: its letter in ASCII
abbrev pub capital : ℕ → ℕ
capital d = cond (ltb d 10) (48 + d) (55 + d)

-- a byte as two such digits; a number and the blank after it
abbrev pub two_digits : ℕ → List ℕ
two_digits b = capital (b / 16) ∷ capital (b % 16) ∷ []

abbrev pub column : ℕ → List ℕ
column n = decimal n ++ ascii " "

-- `0 0 1 0 2 2 10 0` and a newline: these numbers, the header byte, and where the payload starts
abbrev pub row_numbers : Row → List ℕ
row_numbers r =
    r.packet ∷ r.first_obu ∷ r.elements ∷ r.first_offset ∷ r.last_size ∷ r.packet_size ∷ []

unfoldable pub row_text : Row → List ℕ
row_text r = flat_map column (row_numbers r) ++ (two_digits r.header ++ (labelled (ascii " ") r.start ++ ascii "\n"))
