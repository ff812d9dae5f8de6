-- Records of a plan in flat lists: how long these are, where each stands, and that records are read back. Assumes nothing.
use mathlib.Core.Path.{◌≡◌, refl, ◌∙◌}
use Prim.Native.Nat.{ℕ, ◌+◌, ◌*◌, ◌/◌, ◌<◌}
use native.Mathlib.Nat.{add-zero}
use native.Mathlib.Omega.{arith}
use mathlib.Core.List.{List, [], ◌∷◌, map-id}
use lib.ListN.{length, get_or, take}
use lib.Seq.{get_or-drop}
use Rattle.base.specs.Lists.{front}
use Rattle.base.proofs.Lists.{flat_map_length}
use Rattle.base.proofs.Records as records
use Rattle.packetizer.specs.Records.{plan_numbers, record_numbers, flat_plan, packet_record, packets_in, no_packet}
use Rattle.packetizer.specs.declared.PacketMetadata.{PacketMetadata}

pub plan_length : (ps : List PacketMetadata) → length (flat_plan ps) ≡ length ps * plan_numbers
plan_length ps = flat_map_length record_numbers plan_numbers (λ p. refl) ps

-- the part of a list that holds the records stored first
pub plan_part : (ps : List PacketMetadata) (l : List ℕ) → take (length ps * plan_numbers) (front (flat_plan ps) l) ≡ flat_plan ps
plan_part ps l = records.records_part plan_numbers record_numbers (λ p. refl) ps l

-- how many whole records there are; record k, by its numbers
pub packets_count : (l : List ℕ) → length (packets_in l) ≡ length l / plan_numbers
packets_count l = records.records_count plan_numbers packet_record l

module _ (l : List ℕ) (k : ℕ) (h : k < length l / plan_numbers) where
  abbrev number_at : ℕ → ℕ
  number_at j = get_or l (k * plan_numbers + j) 0

  pub packet_in_lem : packet_record (get_or l (k * plan_numbers) 0 ∷ number_at 1 ∷ number_at 2 ∷ number_at 3 ∷ number_at 4 ∷ number_at 5 ∷ []) ≡ get_or (packets_in l) k no_packet
  packet_in_lem =
      rw (records.record_at_lem plan_numbers packet_record l k no_packet h, get_or-drop (k * plan_numbers) l 0 0, add-zero)
      (simp get_or-drop)

-- records written as numbers are read back
pub packets_flat : (ps : List PacketMetadata) → packets_in (flat_plan ps) ≡ ps
packets_flat ps =
    records.records_flat plan_numbers packet_record record_numbers (λ p. refl) (λ p. p) (λ p l. refl) (omega arith) ps ∙ map-id ps
