-- The answer of the header call, as the layers above cite it. Assumes nothing.
use mathlib.Core.Path.{◌≡◌}
use Prim.Native.Nat.{ℕ, zero, suc, ◌+◌, ◌/◌, ◌%◌, ◌≤◌, ◌<◌}
use native.Mathlib.Omega.{arith}
use mathlib.Core.List.{List, map}
use mathlib.Core.Bool.{false}
use lib.ListN.{length, get_or, length-map, get_or-map}
use borrow.Author.Tests.{lt-leb, le-ltb, ne_eqb}
use Rattle.obu.specs.Records.{flat, no_obu, obus_in}
use Rattle.obu.specs.declared.Obu.{Obu}
use Rattle.obu.proofs.Records.{read_back, obus_flat}
use Rattle.packetizer.specs.Plan.{start_after, start_limit}
use Rattle.packetizer.specs.Records.{flat_plan, no_packet, packets_in}
use Rattle.packetizer.specs.declared.PacketMetadata.{PacketMetadata}
use Rattle.packetizer.proofs.Records.{packets_flat}
use Rattle.aggregation.specs.New.{n_of}
use Rattle.aggregation.specs.Header.{last_obu, byte_of, any_outside, header_of, Headed}
use Rattle.aggregation.proofs.Laws.{byte_z, byte_n}
use Rattle.aggregation.proofs.Sequences.{new_back, outside_back}

-- ---- of a record the header's and the extension's low byte count, which are read back of its numbers, and the rest as it is

count_back : (os : List Obu) → length (map read_back os) ≡ length os
count_back os = length-map os read_back

at_back : (os : List Obu) (i : ℕ) → get_or (map read_back os) i no_obu ≡ read_back (get_or os i no_obu)
at_back os i = get_or-map read_back os i no_obu

pub byte_back : (unit : List ℕ) (os : List Obu) (p : PacketMetadata) (k : ℕ) → byte_of unit (map read_back os) p k ≡ byte_of unit os p k
unfolding byte_of n_of
byte_back unit os p k = rw (at_back os (last_obu p), new_back unit os)

header_back_lem : (unit : List ℕ) (os : List Obu) (ps : List PacketMetadata) (k : ℕ) → header_of unit (map read_back os) ps k ≡ header_of unit os ps k
unfolding header_of
header_back_lem unit os ps k = rw (count_back os, outside_back unit os, byte_back unit os (get_or ps k no_packet) k)

-- the same records give the same answer in both forms
pub alike : (unit : List ℕ) (os : List Obu) (ps : List PacketMetadata) (k : ℕ)
    → header_of unit (obus_in (flat os)) (packets_in (flat_plan ps)) k ≡ header_of unit os ps k
alike unit os ps k = rw (obus_flat os, packets_flat ps) (header_back_lem unit os ps k)

-- record k is there, with elements, its OBUs are, its payload ends within L17, and no OBU is outside the unit
pub header_given : (unit : List ℕ) (os : List Obu) (ps : List PacketMetadata) (k : ℕ) → k < length ps → 1 ≤ (get_or ps k no_packet).num_obu_elements
    → (get_or ps k no_packet).first_obu_index + (get_or ps k no_packet).num_obu_elements ≤ length os
    → start_after (get_or ps k no_packet) ≤ start_limit → any_outside unit os ≡ false
    → Headed unit os ps k
unfolding header_of
header_given unit os ps k there some whole near inside =
    rw (
      lt-leb (length ps) k there,
      ne_eqb (get_or ps k no_packet).num_obu_elements 0 (λ e. omega arith),
      le-ltb (length os) _ whole,
      le-ltb start_limit _ near,
      inside,
    )

-- N stands with Z on no packet of a plan that begins with the start of an OBU
pub new_starts : (unit : List ℕ) (os : List Obu) (ps : List PacketMetadata) (k : ℕ) → (get_or ps 0 no_packet).first_obu_offset ≡ 0
    → byte_of unit os (get_or ps k no_packet) k / 128 % 2 + byte_of unit os (get_or ps k no_packet) k / 8 % 2 ≤ 1
new_starts unit os ps zero e =
    let z : byte_of unit os (get_or ps 0 no_packet) 0 / 128 % 2 ≡ 0 = rw e at (byte_z unit os (get_or ps 0 no_packet) 0) in omega arith
new_starts unit os ps (suc k) e =
    let n : byte_of unit os (get_or ps (suc k) no_packet) (suc k) / 8 % 2 ≡ 0 =
    rw (ne_eqb (suc k) 0 (λ h. omega arith)) at (byte_n unit os (get_or ps (suc k) no_packet) (suc k))
    in omega arith
