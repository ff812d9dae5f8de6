-- What functions below the plan call ask and promise; no other contract cites this.
use Rattle.std.specs.Prelude.{◌≡◌, ℕ, ◌+◌, ◌*◌, ◌≤◌, Bool, true, List, length}
use Rattle.obu.specs.Unit.{unit_limit}
use Rattle.packetizer.specs.Plan.{start_limit, Placing, plan_of}
use Rattle.packetizer.specs.Elements.{total_size}
use Rattle.packetizer.specs.Records.{plan_numbers}
use Rattle.packetizer.specs.Laws.{Positive}
use Rattle.packetizer.specs.Call.{mtu_limit}
use Rattle.packetizer.specs.Paper.{recorded}
use Rattle.packetizer.specs.declared.PacketMetadata.{PacketMetadata}

-- OBUs of these sizes are planned: they have no more bytes than a unit, and where records are stored there is room for them
pub record Plannable (mtu : ℕ) (sizes : List ℕ) (store : Bool) (plan : List ℕ) : Type 0 where
  pub most : mtu ≤ mtu_limit
  pub some : Positive sizes
  pub total : total_size sizes ≤ unit_limit
  pub room : store ≡ true → length (plan_of mtu sizes) * plan_numbers ≤ length plan

-- an OBU of s bytes can be placed where p is the current packet
pub record Placeable (room s : ℕ) (p : PacketMetadata) : Type 0 where
  pub large : 1 ≤ room
  pub most : room ≤ unit_limit
  pub some : 1 ≤ s
  pub small : s ≤ unit_limit
  pub few : p.num_obu_elements ≤ p.packet_size
  pub fits : p.packet_size ≤ room

-- what an OBU closes, after n records: they can be counted, their starts fit, and where they are stored there is room for them
pub record Closable (store : Bool) (plan : List ℕ) (n : ℕ) (x : Placing) : Type 0 where
  pub few : n + length x.closed ≤ unit_limit
  pub near : x.current.payload_start ≤ start_limit
  pub room : store ≡ true → (n + length x.closed) * plan_numbers ≤ length plan

-- then m records are closed, the packet p is the current one, and the list holds what was to be stored
pub record Closed (store : Bool) (plan : List ℕ) (n : ℕ) (x : Placing) (p : PacketMetadata) (m : ℕ) (plan' : List ℕ) : Type 0 where
  pub current : p ≡ x.current
  pub counted : m ≡ n + length x.closed
  pub wrote : plan' ≡ recorded store plan n x.closed
