-- The payload of a packet, over the writer of lengths (Y1 to Y5).
use Rattle.std.specs.Prelude.{ℕ, ◌+◌, List, [], ◌∷◌, ◌++◌, map, Bool, cond, length, get_or, take, drop, ltb}
use Rattle.base.specs.Lists.{joined}
use Rattle.leb128.specs.Field.{encode}
use Rattle.obu.specs.Unit.{obus_of}
use Rattle.obu.specs.Wire.{sent}
use Rattle.obu.specs.Records.{no_obu}
use Rattle.obu.specs.declared.Obu.{Obu}
use Rattle.packetizer.specs.Plan.{most_counted}
use Rattle.packetizer.specs.Records.{no_packet}
use Rattle.packetizer.specs.Call.{sizes, unit_plan}
use Rattle.packetizer.specs.Elements.{Element, elements_of}
use Rattle.packetizer.specs.declared.PacketMetadata.{PacketMetadata}
use Rattle.aggregation.specs.Header.{byte_of}

-- Y2, Y3: an element is a part of what is sent of its OBU
abbrev pub part_of : List ℕ → List Obu → Element → List ℕ
part_of unit obus e = take e.size (drop e.from (sent unit (get_or obus e.obu no_obu)))

abbrev pub parts_of : List ℕ → List Obu → List Element → List (List ℕ)
parts_of unit obus es = map (part_of unit obus) es

-- Y4: each with its length in front; the last only where it is to have one
unfoldable pub fielded : (ℕ → List ℕ) → Bool → List (List ℕ) → List ℕ
fielded write last [] = []
fielded write last (e ∷ []) = cond last (write (length e)) [] ++ e
fielded write last (e ∷ f ∷ es) = (write (length e) ++ e) ++ fielded write last (f ∷ es)

-- Y1: the aggregation header of packet k, and then the elements of its record
unfoldable pub payload : (ℕ → List ℕ) → List ℕ → List Obu → ℕ → PacketMetadata → List ℕ
payload write unit obus k p =
    byte_of unit obus p k
    ∷ fielded write (ltb most_counted p.num_obu_elements)
    (parts_of unit obus (elements_of (sizes obus) p))

-- Y5: those of packet k and all after it, one after the other
unfoldable pub payloads_from : (ℕ → List ℕ) → List ℕ → List Obu → ℕ → List PacketMetadata → List (List ℕ)
payloads_from write unit obus k [] = []
payloads_from write unit obus k (p ∷ ps) = payload write unit obus k p ∷ payloads_from write unit obus (k + 1) ps

-- the payload of packet k of a unit with shortest size fields (F4), where it starts in the output (P16), and all of them
abbrev pub payload_at : ℕ → List ℕ → ℕ → List ℕ
payload_at mtu unit k = payload encode unit (obus_of unit) k (get_or (unit_plan mtu unit) k no_packet)

abbrev pub start_at : ℕ → List ℕ → ℕ → ℕ
start_at mtu unit k = (get_or (unit_plan mtu unit) k no_packet).payload_start

abbrev pub payloads_of : ℕ → List ℕ → List (List ℕ)
payloads_of mtu unit = payloads_from encode unit (obus_of unit) 0 (unit_plan mtu unit)

-- Y5: all of them, one after the other: what one call that planned and wrote a whole unit would leave
abbrev pub unit_bytes : ℕ → List ℕ → List ℕ
unit_bytes mtu unit = joined (payloads_of mtu unit)
