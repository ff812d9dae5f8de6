-- The plan, packet after packet, as the walk that compares it goes: no other contract cites this.
use Rattle.std.specs.Prelude.{◌≡◌, ℕ, ◌+◌, ◌≤◌, ◌<◌, List, [], ◌∷◌, ◌++◌, cond, length, get_or, drop, ltb, eqb}
use Rattle.obu.specs.Unit.{unit_limit}
use Rattle.packetizer.specs.Plan.{new_packet, start_after, Placing, spread, plan_from}
use Rattle.packetizer.specs.Elements.{total_size}
use Rattle.packetizer.specs.Laws.{Positive}
use Rattle.packetizer.specs.Call.{mtu_limit}
use Rattle.packetizer.specs.declared.PacketMetadata.{PacketMetadata}

-- the packets that an OBU closes, and then the plan of those from i on
abbrev pub onward : ℕ → List ℕ → ℕ → Placing → List PacketMetadata
onward room sizes i x = x.closed ++ plan_from room i (drop i sizes) x.current

-- the packets to come where the next one starts with byte o of OBU i, and its payload at `start`: the OBU is placed from its first byte on, or
-- spread over new packets from a later one on; after the last OBU nothing comes
unfoldable pub to_come : ℕ → List ℕ → ℕ → ℕ → ℕ → List PacketMetadata
to_come room sizes i o start =
    cond (ltb i (length sizes))
    (cond (eqb o 0)
    (plan_from room i (drop i sizes) (new_packet i start))
    (onward room sizes (i + 1) (spread (get_or sizes i 0) room i (get_or sizes i 0) o start)))
    []

-- the OBUs that are walked
pub record Walkable (room : ℕ) (sizes : List ℕ) : Type 0 where
  pub large : 2 ≤ room
  pub most : room ≤ unit_limit
  pub some : Positive sizes
  pub total : total_size sizes ≤ unit_limit

-- the same, at any mtu
pub record Comparable (mtu : ℕ) (sizes : List ℕ) : Type 0 where
  pub most : mtu ≤ mtu_limit
  pub some : Positive sizes
  pub total : total_size sizes ≤ unit_limit

-- a place where a packet may start: in an OBU, or after the last one
pub record Starts (sizes : List ℕ) (i o : ℕ) : Type 0 where
  pub within : i ≤ length sizes
  pub inside : (o ≡ 0 → ⊥) → (i < length sizes) × (o < get_or sizes i 0)

-- a packet that is filled from OBU i on
pub record Fillable (room : ℕ) (sizes : List ℕ) (i : ℕ) (p : PacketMetadata) : Type 0 where
  pub within : i ≤ length sizes
  pub few : p.num_obu_elements ≤ p.packet_size
  pub fits : p.packet_size ≤ room

-- packets that begin with p, and then come from byte o of OBU i on
pub record Begins (room : ℕ) (sizes : List ℕ) (ps : List PacketMetadata) (p : PacketMetadata) (i o : ℕ) : Type 0 where
  pub first : ps ≡ p ∷ to_come room sizes i o (start_after p)
  pub next : Starts sizes i o
