-- The aggregation header of packet k, over the unit, its OBU records and the plan records (H1 to H5, H7, R11).
use Rattle.std.specs.Prelude.{◌≡◌, ℕ, ◌+◌, ◌-◌, ◌*◌, List, [], ◌∷◌, Bool, false, cond, ◌||◌, length, get_or, ltb, leb, eqb}
use Rattle.base.specs.Answers.{Answer, given, refused}
use Rattle.obu.specs.Records.{no_obu}
use Rattle.obu.specs.declared.Obu.{Obu}
use Rattle.packetizer.specs.Plan.{most_counted, start_after, start_limit}
use Rattle.packetizer.specs.Records.{no_packet}
use Rattle.packetizer.specs.declared.PacketMetadata.{PacketMetadata}
use Rattle.aggregation.specs.New.{n_of}

-- the OBU of the packet's last element, and where in it that element starts
abbrev pub last_obu : PacketMetadata → ℕ
last_obu p = p.first_obu_index + p.num_obu_elements - 1

abbrev pub last_start : PacketMetadata → ℕ
last_start p = cond (eqb p.num_obu_elements 1) p.first_obu_offset 0

-- Z: the first element goes on with an OBU that began before (H2)
abbrev pub z_of : PacketMetadata → ℕ
z_of p = cond (ltb 0 p.first_obu_offset) 128 0

-- Y: the last element ends before its OBU, of this size, does (H3)
abbrev pub y_of : PacketMetadata → ℕ → ℕ
y_of p size = cond (ltb (last_start p + p.last_obu_size) size) 64 0

-- W: how many elements, 0 for four or more (H4)
abbrev pub w_of : PacketMetadata → ℕ
w_of p = cond (leb p.num_obu_elements most_counted) p.num_obu_elements 0

-- the three and N together (H1)
unfoldable pub byte_of : List ℕ → List Obu → PacketMetadata → ℕ → ℕ
byte_of unit obus p k = z_of p + y_of p (get_or obus (last_obu p) no_obu).size + 16 * w_of p + n_of unit obus k

-- a record of no element, or with OBUs beyond a list of n, or whose payload ends beyond L17
abbrev pub lacking : ℕ → PacketMetadata → Bool
lacking n p =
    eqb p.num_obu_elements 0
    || (ltb n (p.first_obu_index + p.num_obu_elements) || ltb start_limit (start_after p))

-- an OBU whose payload does not lie in the unit; one of some is such
abbrev pub outside : List ℕ → Obu → Bool
outside unit o = ltb (length unit) (o.start + o.length)

unfoldable pub any_outside : List ℕ → List Obu → Bool
any_outside unit [] = false
any_outside unit (o ∷ os) = outside unit o || any_outside unit os

unfoldable pub header_of : List ℕ → List Obu → List PacketMetadata → ℕ → Answer ℕ
header_of unit obus packets k =
    cond (leb (length packets) k || (lacking (length obus) (get_or packets k no_packet) || any_outside unit obus))
    (refused 11 0)
    (given (byte_of unit obus (get_or packets k no_packet) k))

-- packet k has a header: none of R11 is so
abbrev pub Headed : List ℕ → List Obu → List PacketMetadata → ℕ → Type 0
Headed unit obus packets k = header_of unit obus packets k ≡ given (byte_of unit obus (get_or packets k no_packet) k)
