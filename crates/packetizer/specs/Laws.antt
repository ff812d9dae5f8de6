-- What the laws of a plan are stated with (P13, P14, P16).
use Rattle.std.specs.Prelude.{◌≡◌, ℕ, ◌+◌, ◌-◌, ◌≤◌, ◌<◌, List, [], ◌∷◌, map, cond, length, get_or, take, drop, ltb, eqb}
use Rattle.obu.specs.Unit.{obus_of}
use Rattle.obu.specs.Wire.{sent}
use Rattle.packetizer.specs.Plan.{start_after}
use Rattle.packetizer.specs.Elements.{Element, elements_of, body_size}
use Rattle.packetizer.specs.declared.PacketMetadata.{PacketMetadata}

-- every OBU has a byte
abbrev pub Positive : List ℕ → Type 0
Positive sizes = (j : ℕ) → j < length sizes → 1 ≤ get_or sizes j 0

-- ---- where packets start and end

-- an offset in an OBU
pub record Position : Type 0 where
  pub obu : ℕ
  pub offset : ℕ

abbrev pub position : ℕ → ℕ → Position
position i o = record { obu = i; offset = o }

-- where the last of so many elements starts
abbrev pub start_of : ℕ → ℕ → ℕ
start_of count o = cond (eqb count 1) o 0

-- where a packet starts; and where it ends: in the OBU of its last element, or, if that ends too, at the next one's start
abbrev pub starts_at : PacketMetadata → Position
starts_at p = position p.first_obu_index p.first_obu_offset

abbrev pub end_of : List ℕ → ℕ → ℕ → Position
end_of sizes next e = cond (ltb e (get_or sizes (next - 1) 0)) (position (next - 1) e) (position next 0)

abbrev pub ends_at : List ℕ → PacketMetadata → Position
ends_at sizes p =
    end_of sizes (p.first_obu_index + p.num_obu_elements) (start_of p.num_obu_elements p.first_obu_offset + p.last_obu_size)

-- ---- records of a plan, with so much room in a packet, for OBUs of these sizes

pub record Sound (room : ℕ) (sizes : List ℕ) (p : PacketMetadata) : Type 0 where
  pub some : 1 ≤ p.num_obu_elements
  pub inside : p.first_obu_index + p.num_obu_elements ≤ length sizes
  pub from : p.first_obu_offset < get_or sizes p.first_obu_index 0
  pub last : 1 ≤ p.last_obu_size
  pub within :
      start_of p.num_obu_elements p.first_obu_offset + p.last_obu_size
      ≤ get_or sizes (p.first_obu_index + p.num_obu_elements - 1) 0
  pub paid : p.packet_size ≡ body_size (elements_of sizes p)
  pub least : 1 ≤ p.packet_size
  pub most : p.packet_size ≤ room

-- records that lead from one position to another, each from where the one before ended
abbrev pub Runs : ℕ → List ℕ → Position → List PacketMetadata → Position → Type 0
Runs room sizes a [] b = a ≡ b
Runs room sizes a (p ∷ ps) b = (starts_at p ≡ a) × Sound room sizes p × Runs room sizes (ends_at sizes p) ps b

-- ---- where payloads start

-- records whose payloads stand side by side from one place in the output to another, each from where the one before ended
abbrev pub Abut : ℕ → List PacketMetadata → ℕ → Type 0
Abut a [] b = a ≡ b
Abut a (p ∷ ps) b = (p.payload_start ≡ a) × Abut (start_after p) ps b

-- what a plan says that payloads take together, a byte more than each packet size
unfoldable pub planned_bytes : List PacketMetadata → ℕ
planned_bytes [] = 0
planned_bytes (p ∷ ps) = p.packet_size + 1 + planned_bytes ps

-- ---- elements of OBUs

-- an element that ends with its OBU
abbrev pub EndsObu : List ℕ → Element → Type 0
EndsObu sizes e = e.from + e.size ≡ get_or sizes e.obu 0

-- the bytes of an element of these OBUs
abbrev pub part_of : List (List ℕ) → Element → List ℕ
part_of obus e = take e.size (drop e.from (get_or obus e.obu []))

-- what is sent of the kept OBUs of a unit
abbrev pub sent_of : List ℕ → List (List ℕ)
sent_of unit = map (sent unit) (obus_of unit)
