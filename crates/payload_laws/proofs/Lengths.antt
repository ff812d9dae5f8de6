-- How long payloads are (P13), and that all of them are the single ones, one after the other (Y5). Assumes nothing.
use mathlib.Core.Path.{◌≡◌, refl, ap, ◌∙◌}
use Prim.Native.Nat.{ℕ, zero, suc, ◌+◌, ◌-◌, ◌≤◌, ◌<◌}
use native.Mathlib.Nat.{zero-add}
use native.Mathlib.Omega.{arith}
use mathlib.Core.List.{List, [], ◌∷◌}
use lib.ListN.{length, get_or}
use Rattle.leb128.specs.Field.{encode}
use Rattle.obu.specs.Unit.{unit_limit, obus_of}
use Rattle.obu.specs.Laws.{Bytes}
use Rattle.obu.specs.declared.Obu.{Obu}
use Rattle.packetizer.specs.Call.{sizes_of, unit_plan}
use Rattle.packetizer.specs.Laws.{Sound}
use Rattle.packetizer.specs.Records.{no_packet}
use Rattle.packetizer.specs.declared.PacketMetadata.{PacketMetadata}
use Rattle.payloader.specs.Payload.{payload, payloads_from, payloads_of}
use Rattle.payloader.proofs.Packets.{mtu_least, packet_sound}
use Rattle.payloader.proofs.Totals.{payload_length}

-- ---- payload k of all is that of record k; `joined` puts them one after the other, which is its definition

module _ (write : ℕ → List ℕ) (unit : List ℕ) (obus : List Obu) where
  pub payloads_count : (k : ℕ) (ps : List PacketMetadata) → length (payloads_from write unit obus k ps) ≡ length ps
  unfolding payloads_from
  payloads_count k [] = refl
  payloads_count k (p ∷ ps) = ap suc (payloads_count (k + 1) ps)

  pub payloads_at : (k j : ℕ) (ps : List PacketMetadata) → j < length ps
      → get_or (payloads_from write unit obus k ps) j [] ≡ payload write unit obus (k + j) (get_or ps j no_packet)
  unfolding payloads_from
  payloads_at k j [] h = absurd (omega arith)
  payloads_at k zero (p ∷ ps) h = ap (λ (i : ℕ). payload write unit obus i p) (omega arith)
  payloads_at k (suc j) (p ∷ ps) h =
      payloads_at (k + 1) j ps (omega arith) ∙ ap (λ (i : ℕ). payload write unit obus i (get_or ps j no_packet)) (omega arith)

pub payload_at_lem : (mtu : ℕ) (unit : List ℕ) (k : ℕ) → k < length (unit_plan mtu unit)
    → get_or (payloads_of mtu unit) k [] ≡ payload encode unit (obus_of unit) k (get_or (unit_plan mtu unit) k no_packet)
payload_at_lem mtu unit k there = rw (zero-add k) at (payloads_at encode unit (obus_of unit) 0 k (unit_plan mtu unit) there)

-- ---- P13

module _ (mtu : ℕ) (unit : List ℕ) (small : length unit ≤ unit_limit) (bytes : Bytes unit) (k : ℕ) (there : k < length (payloads_of mtu unit)) where
  planned : k < length (unit_plan mtu unit)
  planned = omega (arith, payloads_count encode unit (obus_of unit) 0 (unit_plan mtu unit))

  -- a byte more than the packet size of its record
  pub payload_size : length (get_or (payloads_of mtu unit) k []) ≡ (get_or (unit_plan mtu unit) k no_packet).packet_size + 1
  payload_size = ap length (payload_at_lem mtu unit k planned) ∙ payload_length mtu unit small bytes k planned

  -- 2 bytes at least, and at most as many as the mtu
  pub payload_fits : (2 ≤ length (get_or (payloads_of mtu unit) k [])) × (length (get_or (payloads_of mtu unit) k []) ≤ mtu)
  payload_fits =
      let s : Sound (mtu - 1) (sizes_of unit) (get_or (unit_plan mtu unit) k no_packet) = packet_sound mtu unit k small planned in
      let m = mtu_least mtu unit k small planned in
      (omega (arith, payload_size, s.least), omega (arith, payload_size, s.most, m))
