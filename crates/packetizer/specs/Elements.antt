-- The elements of a plan record: which bytes of which OBU they are (Y2), and what they take in a packet (Y4, P2).
use Rattle.std.specs.Prelude.{ℕ, zero, suc, ◌+◌, ◌-◌, List, [], ◌∷◌, Bool, cond, length, get_or, ltb}
use Rattle.packetizer.specs.Fragment.{field_size}
use Rattle.packetizer.specs.Plan.{most_counted}
use Rattle.packetizer.specs.declared.PacketMetadata.{PacketMetadata}

-- so many bytes of an OBU, from an offset on
pub record Element : Type 0 where
  pub obu : ℕ
  pub from : ℕ
  pub size : ℕ

abbrev pub element : ℕ → ℕ → ℕ → Element
element i o n = record { obu = i; from = o; size = n }

-- so many elements, of OBU i and those after it: the first starts at o, any other at 0; the last has so many bytes, any
-- other runs to the end of its OBU
unfoldable pub elements_from : List ℕ → ℕ → ℕ → ℕ → ℕ → List Element
elements_from sizes zero i o last = []
elements_from sizes (suc zero) i o last = element i o last ∷ []
elements_from sizes (suc (suc n)) i o last =
    element i o (get_or sizes i 0 - o) ∷ elements_from sizes (suc n) (i + 1) 0 last

abbrev pub elements_of : List ℕ → PacketMetadata → List Element
elements_of sizes p =
    elements_from sizes p.num_obu_elements p.first_obu_index p.first_obu_offset p.last_obu_size

-- the bytes of elements, and those of their length fields: with or without that of the last
unfoldable pub element_bytes : List Element → ℕ
element_bytes [] = 0
element_bytes (e ∷ es) = e.size + element_bytes es

unfoldable pub field_bytes : Bool → List Element → ℕ
field_bytes last [] = 0
field_bytes last (e ∷ []) = cond last (field_size e.size) 0
field_bytes last (e ∷ f ∷ es) = field_size e.size + field_bytes last (f ∷ es)

-- the last has a length field where there are four elements or more
abbrev pub body_size : List Element → ℕ
body_size es = element_bytes es + field_bytes (ltb most_counted (length es)) es

-- the bytes of all kept OBUs (P14)
unfoldable pub total_size : List ℕ → ℕ
total_size [] = 0
total_size (s ∷ ss) = s + total_size ss
