-- The crate's aggregation header of a packet is ours but for N (D2, H1 to H4). Assumes nothing.
use mathlib.Core.Path.{◌≡◌, refl, sym, ap, ◌∙◌}
use Prim.Native.Nat.{ℕ, ◌+◌, ◌*◌, ◌≤◌, ◌<◌}
use native.Mathlib.Omega.{arith}
use mathlib.Core.List.{List, map}
use mathlib.Core.Bool.{Bool, true, false, cond}
use lib.ListN.{length, get_or}
use lib.Dec.{ltb, leb}
use lib.Bits.{bit_or, or_zero_l, or_zero_r}
use borrow.Author.Tests.{leb-true}
use Rattle.obu.specs.Records.{no_obu}
use Rattle.obu.specs.declared.Obu.{Obu}
use Rattle.packetizer.specs.Plan.{most_counted}
use Rattle.packetizer.specs.Records.{no_packet}
use Rattle.packetizer.specs.declared.PacketMetadata.{PacketMetadata}
use Rattle.aggregation.specs.Header.{last_obu, last_start, z_of, y_of, w_of}
use Rattle.aggregation.proofs.Bits.{or_sum}
use Rattle.aggregation.proofs.Laws.{w_few}
use Rattle.crate_laws.specs.Rust.{ok, as_u8, shl_u8}
use Rattle.crate_laws.specs.Obu.{CrateObu}
use Rattle.crate_laws.specs.Packetizer.{with_z, with_y, with_w, sets_n, with_n, get_aggregation_header}
use Rattle.crate_laws.specs.Pieces.{crate_new, zyw_of}
use Rattle.crate_laws.specs.Same.{as_crate, as_crate_packet, crate_packets}
use Rattle.crate_laws.proofs.Steps.{at_map, minus_is}

-- an `if` that sets bits
or_if : (t : Bool) (header bits : ℕ) → cond t (bit_or header bits) header ≡ bit_or header (cond t bits 0)
or_if true header bits = refl
or_if false header bits = sym (or_zero_r header)

z_is : (p : PacketMetadata) → with_z (as_crate_packet p) 0 ≡ z_of p
z_is p = or_if (ltb 0 p.first_obu_offset) 0 128 ∙ or_zero_l (z_of p)

w_is : (p : PacketMetadata) (header : ℕ) → with_w (as_crate_packet p) header ≡ bit_or header (16 * w_of p)
w_is p header =
    or_if (leb p.num_obu_elements most_counted) header (shl_u8 (as_u8 p.num_obu_elements) 4)
    ∙ ap (bit_or header) (by_count (leb p.num_obu_elements most_counted) refl)
  where
    by_count : (t : Bool) → leb p.num_obu_elements most_counted ≡ t
        → cond t (shl_u8 (as_u8 p.num_obu_elements) 4) 0 ≡ 16 * cond t p.num_obu_elements 0
    by_count true e = omega (arith, leb-true p.num_obu_elements most_counted e)
    by_count false e = refl

-- Z, Y and W, and then N
header_is : (crate : List CrateObu) (obus : List Obu) (p : PacketMetadata) (k : ℕ)
    → with_n crate k (with_w (as_crate_packet p) (with_y (as_crate_packet p) (get_or obus (last_obu p) no_obu).size (with_z (as_crate_packet p) 0))) ≡ zyw_of obus p + crate_new crate k
unfolding zyw_of
header_is crate obus p k =
    let size : ℕ = (get_or obus (last_obu p) no_obu).size in
    let q = as_crate_packet p in
    or_if (sets_n crate k) (with_w q (with_y q size (with_z q 0))) 8
    ∙ ap (λ (h : ℕ). bit_or h (crate_new crate k))
    (w_is p (with_y q size (with_z q 0))
    ∙ ap (λ (h : ℕ). bit_or h (16 * w_of p)) (or_if (ltb (last_start p + p.last_obu_size) size) (with_z q 0) 64 ∙ ap (λ (h : ℕ). bit_or h (y_of p size)) (z_is p)))
    ∙ or_sum (ltb 0 p.first_obu_offset) (ltb (last_start p + p.last_obu_size) size) (sets_n crate k) (w_of p) (w_few p)

-- record k is there, with elements, and its OBUs are
pub header_same : (unit : List ℕ) (obus : List Obu) (packets : List PacketMetadata) (k : ℕ) → k < length packets
    → 1 ≤ (get_or packets k no_packet).num_obu_elements
    → (get_or packets k no_packet).first_obu_index + (get_or packets k no_packet).num_obu_elements ≤ length obus
    → get_aggregation_header (map (as_crate unit) obus) (crate_packets packets) k ≡ ok (zyw_of obus (get_or packets k no_packet) + crate_new (map (as_crate unit) obus) k)
unfolding get_aggregation_header
header_same unit obus packets k there some inside =
    let p = get_or packets k no_packet in
    rw (
      at_map as_crate_packet no_packet packets k there,
      minus_is (p.first_obu_index + p.num_obu_elements) 1 (omega arith),
      at_map (as_crate unit) no_obu obus (last_obu p) (omega arith),
    )
    (ap ok (header_is (map (as_crate unit) obus) obus p k))
