-- What the writing calls write, read by the definition of elements (H1 to H5, E1 to E5, R13, R15 to R17): the statement.
use Rattle.std.specs.Prelude.{ℕ, ◌+◌, ◌≡◌, List, [], ◌∷◌, map, false, ◌&&◌, get_or, ltb, eqb}
use Rattle.base.specs.Answers.{given}
use Rattle.obu.specs.Unit.{obus_of}
use Rattle.obu.specs.Records.{no_obu}
use Rattle.packetizer.specs.Elements.{elements_of}
use Rattle.packetizer.specs.Call.{sizes_of, unit_plan}
use Rattle.packetizer.specs.declared.PacketMetadata.{PacketMetadata}
use Rattle.aggregation.specs.Header.{last_obu, last_start}
use Rattle.payloader.specs.Payload.{parts_of, payloads_of}
use Rattle.element.specs.Header.{z_bit, y_bit, n_bit}
use Rattle.element.specs.Elements.{payload_elements, bytes_of}
use Rattle.element.specs.declared.Part.{Part}
use Rattle.delivery.specs.Units.{Sending, Accepted}

-- a payload gives back what its record in the plan says: no refusal, these elements, Z and Y, and N never with Z
pub record ReadBack (unit : List ℕ) (p : PacketMetadata) (payload : List ℕ) : Type 0 where
  pub parts : List Part
  pub read : payload_elements payload ≡ given parts
  pub elements : map (bytes_of payload) parts ≡ parts_of unit (obus_of unit) (elements_of (sizes_of unit) p)
  pub z : eqb (z_bit (get_or payload 0 0)) 1 ≡ ltb 0 p.first_obu_offset
  pub y : eqb (y_bit (get_or payload 0 0)) 1 ≡ ltb (last_start p + p.last_obu_size) (get_or (obus_of unit) (last_obu p) no_obu).size
  pub n : eqb (z_bit (get_or payload 0 0)) 1 && eqb (n_bit (get_or payload 0 0)) 1 ≡ false

-- payload k by record k
abbrev pub AllReadBack : List ℕ → List PacketMetadata → List (List ℕ) → Type 0
AllReadBack unit [] [] = Unit {0}
AllReadBack unit [] (b ∷ bs) = ⊥
AllReadBack unit (p ∷ ps) [] = ⊥
AllReadBack unit (p ∷ ps) (b ∷ bs) = ReadBack unit p b × AllReadBack unit ps bs

abbrev pub UnitReadBack : Type 0
UnitReadBack = (s : Sending) → Accepted s → AllReadBack s.unit (unit_plan s.mtu s.unit) (payloads_of s.mtu s.unit)
