-- `unpack` after `pack` (G2 to G5): the statement.
use Rattle.std.specs.Prelude.{ℕ, ◌≤◌, ◌<◌, ◌≡◌}
use mathlib.Core.List.{List, flat_map}
use Rattle.base.specs.Lists.{All}
use Rattle.obu.specs.Unit.{obus_of}
use Rattle.obu.specs.Wire.{wire_of}
use Rattle.packetizer.specs.Plan.{least_mtu}
use Rattle.packing.specs.Pack.{head_in, found, units_in, pack_of}
use Rattle.packing.specs.declared.input.PackHead.{PackHead}
use Rattle.unpacking.specs.Unpack.{unpack_of}

-- the `wire` bytes (O12) of all kept OBUs of some units
abbrev pub wire_bytes_of : List (List ℕ) → List ℕ
wire_bytes_of units = flat_map (λ (u : List ℕ). flat_map (wire_of u) (obus_of u)) units

-- whatever the input and the sizes in it: all kept OBUs of the units before the first that is cut or refused, and nothing else
abbrev pub RoundTrip : Type 0
RoundTrip =
    (input : List ℕ) (h : PackHead) → All (λ b. b < 256) input → head_in input ≡ found h → least_mtu ≤ h.mtu
    → unpack_of (pack_of input) ≡ wire_bytes_of (units_in input).items
